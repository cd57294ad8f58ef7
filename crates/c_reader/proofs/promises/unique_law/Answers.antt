use Rattle.c_reader.proofs.Law.{units_are_unique}
use Rattle.c_reader.proofs.promises.unique_law.Goals as goal

pub returns : goal.returns
returns c = units_are_unique
