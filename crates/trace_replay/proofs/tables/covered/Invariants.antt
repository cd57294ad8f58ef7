use Rattle.std.proofs.Common.{◌≡◌, ◌+◌, ◌≤◌, drop}
use Rattle.trace_replay.specs.Tables.{covered}
use Rattle.trace_replay.proofs.tables.covered.Given as goal

abbrev pub invariant-loop-unit : goal.invariant-loop-unit
invariant-loop-unit l = record {
  all : l.all + covered l.unit l.end (drop l.unit l.units) ≡ covered 0 0 l.units;
  few : l.all ≤ l.unit;
}
