use Rattle.std.proofs.Common.{[], ◌∙◌}
use Rattle.std.proofs.lemmas.List.{get_or_read}
use Rattle.trace_replay.proofs.Halves.{legal_at}
use Rattle.trace_replay.proofs.tables.live_in_all.Goals as goal

pub live_bytes-requires-clause-legal : goal.live_bytes-requires-clause-legal
live_bytes-requires-clause-legal c =
    legal_at c.args.size c.args.first c.loop-calls.calls-index c.loop-calls.start c.args.ranges.now c.as_slice.result.now c.requires.legal c.loop-calls-test.true c.loop-calls.invariant.start
    (c.as_slice.ensures ∙ get_or_read c.args.ranges.now c.loop-calls.calls-index c.calls-item.result c.loop-calls-test.true c.calls-item.is [])
