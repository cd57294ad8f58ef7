use Rattle.c_core.proofs.Views.{view_loop}
use Rattle.machine_expressions.proofs.Integers.{ok_then}
use Rattle.machine_statements.proofs.loops.testing.Goals as goal

pub returns-in-Loop-clause-run : goal.returns-in-Loop-clause-run
returns-in-Loop-clause-run c =
    ok_then c.tested.result c.tested.ensures.run (λ t h p marks bs. rw (c.in-Loop.is, view_loop) (rw (c.in-Loop.is, view_loop, c.get.ensures) at (h p marks bs)))
