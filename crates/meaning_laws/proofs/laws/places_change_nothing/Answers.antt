use Rattle.meaning_laws.proofs.Unplaced as lemmas
use Rattle.meaning_laws.proofs.laws.places_change_nothing.Goals as goal

pub returns : goal.returns
returns c = lemmas.places_change_nothing
