use Rattle.signature_laws.proofs.Read as lemmas
use Rattle.signature_laws.proofs.laws.every_signature_is_read.Goals as goal

pub returns : goal.returns
returns c = lemmas.every_signature_is_read
