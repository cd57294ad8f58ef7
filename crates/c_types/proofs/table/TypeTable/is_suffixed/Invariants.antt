use Rattle.std.proofs.Common.{◌≡◌, ◌<◌, length}
use Rattle.c_types.specs.Spelling.{is_suffixed}
use Rattle.c_types.specs.Table.{type_at}
use Rattle.c_types.proofs.table.TypeTable.is_suffixed.Given as goal

abbrev pub invariant-loop-named : goal.invariant-loop-named
invariant-loop-named l = record {
  below : l.at.0 < length l.self.terms;
  same : is_suffixed (type_at l.self.terms l.fn.id.0) ≡ is_suffixed (type_at l.self.terms l.at.0);
}

abbrev pub decreases-loop-named : goal.decreases-loop-named
decreases-loop-named l = l.at.0
