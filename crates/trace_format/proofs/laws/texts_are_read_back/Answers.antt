use Rattle.trace_format.proofs.Texts.{trace_read}
use Rattle.trace_format.proofs.laws.texts_are_read_back.Goals as goal

pub returns : goal.returns
returns c = trace_read
