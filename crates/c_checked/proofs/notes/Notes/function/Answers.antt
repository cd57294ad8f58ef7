use Rattle.c_checked.proofs.Reading.{function_read, function_below}
use Rattle.c_checked.proofs.notes.Notes.function.Goals as goal

pub returns-clause-is : goal.returns-clause-is
returns-clause-is c = rw (← c.self.view_is) (function_read _ c.args.number _ c.get.ensures.value)

pub returns-clause-valid : goal.returns-clause-valid
returns-clause-valid c = rw (← c.self.view_is) (function_below _ c.self.inside.functions c.args.number c.get.result c.self.invariant.functions c.get.ensures.value)
