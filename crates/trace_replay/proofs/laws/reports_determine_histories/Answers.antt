use Rattle.trace_replay.proofs.Determined.{determined}
use Rattle.trace_replay.proofs.laws.reports_determine_histories.Goals as goal

pub returns : goal.returns
returns c = determined
