use Rattle.c_meaning.proofs.Unique as unique
use Rattle.c_meaning.proofs.laws.one_run.Goals as goal

pub returns : goal.returns
returns c = unique.one_run
