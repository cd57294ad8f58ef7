use Rattle.c_meaning.proofs.WorkedRuns as worked
use Rattle.c_meaning.proofs.examples.run_examples.Goals as goal

pub returns : goal.returns
returns c = worked.run_examples
