use Rattle.std.proofs.Common.{Some, None}
use Rattle.c_checked.proofs.Reading.{below, target_read}
use Rattle.c_checked.proofs.notes.Notes.target_of.Goals as goal

pub returns-in-None-clause-is : goal.returns-in-None-clause-is
returns-in-None-clause-is c = rw (← c.self.view_is) (target_read _ c.args.node None c.in-None.ensures.value)

pub returns-in-Some-clause-is : goal.returns-in-Some-clause-is
returns-in-Some-clause-is c = rw (← c.self.view_is) (target_read _ c.args.node (Some c.in-Some.note.now) c.in-Some.ensures.value)

pub returns-in-Some-clause-valid : goal.returns-in-Some-clause-valid
returns-in-Some-clause-valid c = rw (← c.self.view_is) (below _ c.self.inside.targets c.args.node c.in-Some.note.now c.self.invariant.targets c.in-Some.ensures.value)
