use Rattle.trace_format.proofs.Computed.{examples_hold}
use Rattle.trace_format.proofs.laws.trace_examples.Goals as goal

pub returns : goal.returns
returns c = examples_hold
