use Rattle.c_reader.proofs.Law.{answers_are_right, units_are_kept}
use Rattle.c_reader.proofs.promises.reading_law.Goals as goal

pub returns : goal.returns
returns c = record { right = answers_are_right; units = units_are_kept }
