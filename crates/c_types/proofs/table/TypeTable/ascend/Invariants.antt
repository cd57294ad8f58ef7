use Rattle.std.proofs.Common.{length}
use Rattle.c_types.specs.Arrays.{IsRaised}
use Rattle.c_types.specs.Roots.{IsRoot, AreRoots}
use Rattle.c_types.specs.Table.{type_at, IsLonger}
use Rattle.c_types.proofs.table.TypeTable.ascend.Given as goal

abbrev pub invariant-loop-level : goal.invariant-loop-level
invariant-loop-level l = record {
  longer : IsLonger l.fn.self l.self;
  root : IsRoot l.self.terms l.made.0;
  roots : AreRoots l.fn.self.terms l.levels.items;
  raised : IsRaised l.fn.self.terms l.qualifiers (type_at l.fn.self.terms l.fn.root.0) l.levels.items (type_at l.self.terms l.made.0);
}

abbrev pub decreases-loop-level : goal.decreases-loop-level
decreases-loop-level l = length l.levels.items
