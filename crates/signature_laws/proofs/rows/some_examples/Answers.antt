use Rattle.std.proofs.Common.{refl}
use Rattle.signature_laws.proofs.rows.some_examples.Goals as goal

pub returns : goal.returns
returns c = (
  (refl, refl, refl),
  (refl, refl, refl),
  (refl, refl, refl),
  (refl, refl, refl),
  (refl, refl, refl),
  (refl, refl, refl),
  (refl, refl, refl),
  (refl, refl, refl),
  (refl, refl, refl),
  (refl, refl, refl),
  (refl, refl, refl),
  (refl, refl, refl),
)
