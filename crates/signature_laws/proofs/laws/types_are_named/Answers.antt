use Rattle.signature_laws.proofs.Tables as lemmas
use Rattle.signature_laws.proofs.laws.types_are_named.Goals as goal

pub returns : goal.returns
returns c = lemmas.types_are_named
