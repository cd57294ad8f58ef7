use Rattle.std.proofs.Common.{◌≡◌, ◌++◌, drop}
use Rattle.trace_replay.specs.Report.{entry_lines}
use Rattle.trace_replay.proofs.report.write_entries.Given as goal

abbrev pub invariant-loop-call : goal.invariant-loop-call
invariant-loop-call l = l.text.items ++ entry_lines l.first (drop l.call-index l.calls) ≡ l.initial.text.items ++ entry_lines l.first l.calls
