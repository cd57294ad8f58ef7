use Rattle.std.proofs.Common.{◌≡◌, ◌+◌, ◌*◌, ◌≤◌, drop}
use Rattle.trace_replay.specs.Report.{live_bytes, over_all}
use Rattle.trace_replay.proofs.tables.live_in_all.Given as goal

abbrev pub invariant-loop-calls : goal.invariant-loop-calls
invariant-loop-calls l = record {
  sum : l.all + over_all live_bytes (drop l.calls-index l.ranges) ≡ over_all live_bytes l.ranges;
  few : l.all ≤ 4503668346847232 * l.calls-index;
  start : l.start ≡ l.first + l.calls-index * l.size;
  low : l.start ≤ 4611686018695823360 + 1048576 * l.calls-index;
}
