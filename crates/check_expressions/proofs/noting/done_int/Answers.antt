use Rattle.check_expressions.proofs.noting.done_int.Goals as goal

pub returns-clause-gives : goal.returns-clause-gives
returns-clause-gives c = rw (c.in_ok-ty.ensures.is, c.make.ensures.seen) at c.done_constant.ensures.gives
