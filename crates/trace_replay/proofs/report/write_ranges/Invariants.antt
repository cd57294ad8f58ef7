use Rattle.std.proofs.Common.{◌≡◌, ◌++◌, ◌+◌, ◌*◌, ◌≤◌, drop}
use Rattle.trace_replay.specs.Report.{range_lines}
use Rattle.trace_replay.proofs.report.write_ranges.Given as goal

abbrev pub invariant-loop-token : goal.invariant-loop-token
invariant-loop-token l = record {
  text : l.text.items ++ range_lines l.size l.token l.start (drop l.token l.ranges) ≡ l.initial.text.items ++ range_lines l.size 0 l.first l.ranges;
  low : l.start ≤ 4611686018427387904 + 1048576 * l.token;
}
