use Rattle.std.proofs.Common.{◌≡◌, ◌+◌, ◌≤◌, drop}
use Rattle.trace_replay.specs.Report.{how_many}
use Rattle.trace_replay.proofs.counts.how_many.Given as goal

abbrev pub invariant-loop-call : goal.invariant-loop-call
invariant-loop-call l = record {
  sum : l.count + how_many l.sort (drop l.call-index l.calls) ≡ how_many l.sort l.calls;
  few : l.count ≤ l.call-index;
}
