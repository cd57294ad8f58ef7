use Rattle.std.proofs.Common.{Some, None}
use Rattle.c_checked.proofs.Reading.{object_below, object_read}
use Rattle.c_checked.proofs.notes.Notes.object.Goals as goal

pub returns-in-None-clause-is : goal.returns-in-None-clause-is
returns-in-None-clause-is c = rw (← c.self.view_is) (object_read _ c.args.number None c.in-None.ensures.value)

pub returns-in-Some-clause-is : goal.returns-in-Some-clause-is
returns-in-Some-clause-is c = rw (← c.self.view_is) (object_read _ c.args.number (Some c.in-Some.object.now) c.in-Some.ensures.value)

pub returns-in-Some-clause-valid : goal.returns-in-Some-clause-valid
returns-in-Some-clause-valid c = rw (← c.self.view_is) (object_below _ c.self.inside.objects c.args.number c.in-Some.object.now c.self.invariant.objects c.in-Some.ensures.value)
