use Rattle.c_types.specs.Found.{found}
use Rattle.std.proofs.Common.{refl}
use Rattle.c_types.proofs.numbers.Numbers.new.Goals as goal

pub returns : goal.returns
unfolding found
returns c = λ key. rw c.new.ensures.empty refl
