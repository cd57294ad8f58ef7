use Rattle.meaning_laws.proofs.Retagged as lemmas
use Rattle.meaning_laws.proofs.laws.tags_change_nothing.Goals as goal

pub returns : goal.returns
returns c = lemmas.tags_change_nothing
