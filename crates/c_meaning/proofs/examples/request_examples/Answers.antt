use Rattle.std.proofs.Common.{refl}
use Rattle.c_meaning.proofs.examples.request_examples.Goals as goal

pub returns : goal.returns
returns c = (refl, refl, refl)
