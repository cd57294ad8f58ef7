use Rattle.c_core.proofs.Views.{view_call}
use Rattle.machine_calls.proofs.call.calling_now.Goals as goal

pub returns-in-Call-clause-run : goal.returns-in-Call-clause-run
returns-in-Call-clause-run c = λ marks bs. rw (c.in-Call.is, view_call, ← c.as_slice.ensures) (c.calling_through.ensures.run marks bs)
