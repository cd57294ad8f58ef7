use Rattle.std.proofs.Common.{◌≡◌, ◌≤◌, length, map, drop}
use Rattle.c_rules.specs.Unit as unit
use Rattle.c_world.specs.Seen.{seen, entry_of}
use Rattle.statement_rules.proofs.bodies.declare_names.Given as goal

abbrev pub invariant-loop-left : goal.invariant-loop-left
invariant-loop-left l = record {
  seen : seen l.world ≡ unit.with_names (map (entry_of l.fn.world.table.terms) (drop l.left l.names)) (seen l.fn.world);
  same : l.world.table ≡ l.fn.world.table;
  within : l.left ≤ length l.names;
}

abbrev pub decreases-loop-left : goal.decreases-loop-left
decreases-loop-left l = l.left
