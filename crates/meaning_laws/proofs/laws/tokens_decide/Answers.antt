use Rattle.meaning_laws.proofs.ToldRuns as lemmas
use Rattle.meaning_laws.proofs.laws.tokens_decide.Goals as goal

pub returns : goal.returns
returns c = lemmas.told_decides
