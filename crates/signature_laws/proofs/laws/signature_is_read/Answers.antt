use Rattle.signature_laws.proofs.Read as lemmas
use Rattle.signature_laws.proofs.laws.signature_is_read.Goals as goal

pub returns : goal.returns
returns c = lemmas.signature_is_read
