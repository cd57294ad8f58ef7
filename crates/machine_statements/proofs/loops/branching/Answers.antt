use Rattle.machine_statements.proofs.Listed.{view_choice}
use Rattle.machine_statements.proofs.loops.branching.Goals as goal

pub returns-then-holds-clause-run : goal.returns-then-holds-clause-run
returns-then-holds-clause-run c = λ p marks st s. rw (c.in-If.is, view_choice, ← c.holds.ensures, c.if-holds.true, c.get.ensures)

pub returns-else-holds-clause-run : goal.returns-else-holds-clause-run
returns-else-holds-clause-run c = λ p marks st s. rw (c.in-If.is, view_choice, ← c.holds.ensures, c.if-holds.false) (c.other.ensures.run p marks st s)
