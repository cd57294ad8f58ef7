use Rattle.signature_laws.proofs.Numbered as lemmas
use Rattle.signature_laws.proofs.laws.unnamed_is_name.Goals as goal

pub returns : goal.returns
returns c = lemmas.unnamed_is_name
