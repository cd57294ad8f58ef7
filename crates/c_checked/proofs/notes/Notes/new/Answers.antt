use Rattle.c_checked.proofs.Reading.{known_kept}
use Rattle.c_checked.proofs.notes.Notes.new.Goals as goal

pub returns : goal.returns
returns c = known_kept _ c.findings.result _ c.findings.ensures.keeps c.of.ensures
