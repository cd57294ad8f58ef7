use Rattle.meaning_laws.proofs.Stays as lemmas
use Rattle.meaning_laws.proofs.laws.numbers_stay.Goals as goal

pub returns : goal.returns
returns c = lemmas.numbers_stay
