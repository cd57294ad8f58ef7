use Rattle.c_core.proofs.Views.{view_loop}
use Rattle.machine_expressions.proofs.Integers.{ok_then}
use Rattle.machine_statements.proofs.loops.turn_ended.Goals as goal

pub returns-in-Loop-clause-run : goal.returns-in-Loop-clause-run
returns-in-Loop-clause-run c =
    ok_then c.turned.result c.turned.ensures.run (λ t h p marks r s. rw (c.in-Loop.is, view_loop) (rw (c.in-Loop.is, view_loop, c.as_ref.ensures.value) at (h p marks r s)))
