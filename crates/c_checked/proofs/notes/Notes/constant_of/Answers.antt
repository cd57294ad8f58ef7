use Rattle.std.proofs.Common.{Some, None}
use Rattle.c_checked.proofs.Reading.{constant_read}
use Rattle.c_checked.proofs.notes.Notes.constant_of.Goals as goal

pub returns-in-None : goal.returns-in-None
returns-in-None c = rw (← c.self.view_is) (constant_read _ c.args.node None c.in-None.ensures.value)

pub returns-in-Some : goal.returns-in-Some
returns-in-Some c = rw (← c.self.view_is) (constant_read _ c.args.node (Some c.in-Some.note.now) c.in-Some.ensures.value)
