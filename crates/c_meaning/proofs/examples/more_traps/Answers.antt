use Rattle.std.proofs.Common.{refl}
use Rattle.c_meaning.proofs.examples.more_traps.Goals as goal

pub returns : goal.returns
returns c = (refl, refl, refl, refl, refl)
