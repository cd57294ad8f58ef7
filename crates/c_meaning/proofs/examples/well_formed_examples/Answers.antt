use Rattle.std.proofs.Common.{refl}
use Rattle.c_meaning.proofs.examples.well_formed_examples.Goals as goal

pub returns-clause-examples : goal.returns-clause-examples
returns-clause-examples c = (refl, refl, refl, refl, refl, refl, refl, refl, refl, refl, refl, refl, refl)

pub returns-clause-more : goal.returns-clause-more
returns-clause-more c = (refl, refl, refl, refl, refl, refl, refl, refl, refl, refl, refl, refl)
