use Rattle.c_reader.proofs.MarksRun.{marked}
use Rattle.c_reader.proofs.places.marked_law.Goals as goal

pub returns : goal.returns
returns c = marked
