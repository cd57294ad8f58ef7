use Rattle.std.proofs.Common.{refl}
use Rattle.c_meaning.proofs.examples.sort_examples.Goals as goal

pub returns-clause-operands : goal.returns-clause-operands
returns-clause-operands c = (refl, refl, refl, refl, refl, refl, refl, refl, refl, refl, refl, refl, refl, refl, refl, refl, refl, refl, refl, refl, refl, refl, refl, refl, refl, refl, refl)

pub returns-clause-values : goal.returns-clause-values
returns-clause-values c = (refl, refl, refl, refl, refl, refl, refl, refl, refl, refl, refl, refl, refl, refl, refl, refl)

pub returns-clause-calls : goal.returns-clause-calls
returns-clause-calls c = (refl, refl, refl, refl, refl, refl, refl, refl, refl, refl, refl, refl, refl, refl, refl)

pub returns-clause-statements : goal.returns-clause-statements
returns-clause-statements c = (refl, refl, refl, refl, refl, refl, refl, refl, refl, refl, refl, refl, refl, refl, refl, refl)

pub returns-clause-names : goal.returns-clause-names
returns-clause-names c = (refl, refl, refl, refl, refl, refl, refl, refl, refl, refl, refl, refl, refl, refl, refl, refl, refl, refl, refl, refl, refl, refl, refl, refl)
