use Rattle.std.proofs.Common.{◌≡◌, ◌+◌, ◌*◌, ◌≤◌, drop}
use Rattle.trace_replay.specs.Report.{granted_bytes}
use Rattle.trace_replay.proofs.tables.granted_in_all.Given as goal

abbrev pub invariant-loop-calls : goal.invariant-loop-calls
invariant-loop-calls l = record {
  sum : l.all + granted_bytes l.size l.start (drop l.calls-index l.ranges) ≡ granted_bytes l.size l.first l.ranges;
  few : l.all ≤ 1048592 * l.calls-index;
  start : l.start ≡ l.first + l.calls-index * l.size;
  low : l.start ≤ 4611686018695823360 + 1048576 * l.calls-index;
}
