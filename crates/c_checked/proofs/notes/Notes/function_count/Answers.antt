use Rattle.std.proofs.Common.{◌∙◌}
use Rattle.c_checked.proofs.Reading.{functions_counted}
use Rattle.c_checked.proofs.notes.Notes.function_count.Goals as goal

pub returns : goal.returns
returns c = rw (← c.self.view_is) (c.len.ensures ∙ functions_counted _)
