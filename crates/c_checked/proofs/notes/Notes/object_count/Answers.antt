use Rattle.std.proofs.Common.{◌∙◌}
use Rattle.c_checked.proofs.Reading.{objects_counted}
use Rattle.c_checked.proofs.notes.Notes.object_count.Goals as goal

pub returns : goal.returns
returns c = rw (← c.self.view_is) (c.len.ensures ∙ objects_counted _)
