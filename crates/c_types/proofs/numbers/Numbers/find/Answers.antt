use Rattle.std.proofs.Common.{rules}
use Rattle.c_types.specs.Found.{found}
use Rattle.c_types.proofs.numbers.Numbers.find.Goals as goal

pub returns : goal.returns
unfolding found
returns c = search rules
