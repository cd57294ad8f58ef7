use Rattle.machine_expressions.proofs.whole.mark.Goals as goal

pub returns-clause-given : goal.returns-clause-given
returns-clause-given c = λ sizes. c.gives.ensures.given sizes tt
