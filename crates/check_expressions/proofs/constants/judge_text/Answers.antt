use Rattle.check_expressions.proofs.constants.judge_text.Goals as goal

pub returns-clause-gives : goal.returns-clause-gives
returns-clause-gives c = rw (c.in_ok-ty.ensures.is, c.text_type.ensures.seen, c.in_ok-bytes.ensures, c.varies.ensures, c.text.ensures) at c.done.ensures.gives
