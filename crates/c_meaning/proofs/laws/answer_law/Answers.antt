use Rattle.c_meaning.proofs.Answered.{suffice, fit}
use Rattle.c_meaning.proofs.laws.answer_law.Goals as goal

pub returns-clause-suffice : goal.returns-clause-suffice
returns-clause-suffice c = suffice

pub returns-clause-fit : goal.returns-clause-fit
returns-clause-fit c = fit
