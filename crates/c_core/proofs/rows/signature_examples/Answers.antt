use Rattle.std.proofs.Common.{refl}
use Rattle.c_core.proofs.rows.signature_examples.Goals as goal

pub returns : goal.returns
returns c = (refl, refl, refl, refl, refl, refl, refl, refl, refl, refl, refl, refl, refl, refl, refl, refl, refl, refl, refl)
