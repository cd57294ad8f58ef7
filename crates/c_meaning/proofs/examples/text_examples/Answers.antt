use Rattle.std.proofs.Common.{refl}
use Rattle.c_meaning.proofs.examples.text_examples.Goals as goal

pub returns : goal.returns
returns c = (refl, refl, refl, refl, refl, refl, refl, refl, refl, refl, refl)
