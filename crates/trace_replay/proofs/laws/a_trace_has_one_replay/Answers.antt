use Rattle.trace_replay.proofs.Unique.{one_replay}
use Rattle.trace_replay.proofs.laws.a_trace_has_one_replay.Goals as goal

pub returns : goal.returns
returns c = one_replay
