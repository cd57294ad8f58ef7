use Rattle.c_reader.proofs.MarkedWhole.{tokens_are_read, units_are_answered}
use Rattle.c_reader.proofs.places.answer_law.Goals as goal

pub returns : goal.returns
returns c = record { right = tokens_are_read; units = units_are_answered }
