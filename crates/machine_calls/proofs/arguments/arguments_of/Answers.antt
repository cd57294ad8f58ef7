use Rattle.c_core.proofs.Views.{view_call, view_lib_call}
use Rattle.machine_calls.proofs.arguments.arguments_of.Goals as goal

pub returns-in-Call : goal.returns-in-Call
returns-in-Call c = rw (c.as_slice.ensures, c.in-Call.is, view_call)

pub returns-in-LibCall : goal.returns-in-LibCall
returns-in-LibCall c = rw (c.as_slice-in-LibCall.ensures, c.in-LibCall.is, view_lib_call)
