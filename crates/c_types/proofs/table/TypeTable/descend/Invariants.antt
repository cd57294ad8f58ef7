use Rattle.c_types.specs.Arrays.{IsPath}
use Rattle.c_types.specs.Roots.{IsRoot, AreRoots}
use Rattle.c_types.specs.Table.{type_at}
use Rattle.c_types.proofs.table.TypeTable.descend.Given as goal

abbrev pub invariant-loop-element : goal.invariant-loop-element
invariant-loop-element l = record {
  root : IsRoot l.self.terms l.at.0;
  path : IsPath l.self.terms (type_at l.self.terms l.fn.root.0) l.levels.items (type_at l.self.terms l.at.0);
  roots : AreRoots l.self.terms l.levels.items;
}

abbrev pub decreases-loop-element : goal.decreases-loop-element
decreases-loop-element l = l.at.0
