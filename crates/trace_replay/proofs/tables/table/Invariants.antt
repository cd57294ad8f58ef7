use Rattle.std.proofs.Common.{◌≡◌, drop}
use Rattle.trace_replay.specs.Tables.{marked_from, table}
use Rattle.trace_replay.proofs.tables.table.Given as goal

abbrev pub invariant-loop-call : goal.invariant-loop-call
invariant-loop-call l = marked_from l.kept l.first l.units (drop l.call-index l.calls) ≡ table l.kept l.first l.size l.calls
