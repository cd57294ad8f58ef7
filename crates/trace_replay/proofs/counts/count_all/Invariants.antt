use Rattle.std.proofs.Common.{◌≡◌, ◌+◌, ◌*◌, ◌≤◌, drop}
use Rattle.trace_replay.specs.Report.{how_many, over_all}
use Rattle.trace_replay.proofs.counts.count_all.Given as goal

abbrev pub invariant-loop-calls : goal.invariant-loop-calls
invariant-loop-calls l = record {
  sum : l.count + over_all (how_many l.sort) (drop l.calls-index l.ranges) ≡ over_all (how_many l.sort) l.ranges;
  few : l.count ≤ 18446744073709551616 * l.calls-index;
}
