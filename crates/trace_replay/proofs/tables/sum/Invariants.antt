use Rattle.std.proofs.Common.{◌≡◌, ◌+◌, ◌*◌, ◌≤◌, drop}
use Rattle.std.specs.Prelude.{sum}
use Rattle.trace_replay.proofs.tables.sum.Given as goal

abbrev pub invariant-loop-count : goal.invariant-loop-count
invariant-loop-count l = record {
  sum : l.all + sum (drop l.count-index l.units) ≡ sum l.units;
  few : l.all ≤ 4294967295 * l.count-index;
}
