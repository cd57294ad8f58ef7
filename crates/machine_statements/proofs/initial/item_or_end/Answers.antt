use Rattle.machine_statements.proofs.initial.item_or_end.Goals as goal

pub returns-in_ok-wait-in-Some-clause-run : goal.returns-in_ok-wait-in-Some-clause-run
returns-in_ok-wait-in-Some-clause-run c = λ p marks r s. rw (← c.in-Some.ensures, c.in_ok-wait-in-Some.ensures.frames, c.wait.ensures.values)

pub returns-in-None-clause-run : goal.returns-in-None-clause-run
returns-in-None-clause-run c = λ p marks r s. rw (← c.in-None.ensures)
