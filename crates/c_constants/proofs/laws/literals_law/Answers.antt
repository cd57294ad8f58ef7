use Rattle.c_constants.proofs.Parted.{literal_is}
use Rattle.c_constants.proofs.laws.literals_law.Goals as goal

pub returns : goal.returns
returns c = literal_is
