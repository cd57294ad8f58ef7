use Rattle.std.proofs.Common.{◌≡◌, ◌<◌, All, length}
use Rattle.c_types.specs.Table.{type_at}
use Rattle.c_world.specs.Extends.{Extends}
use Rattle.c_world.specs.Seen.{seen}
use Rattle.declarator_rules.specs.Lengths.{wrapped}
use Rattle.declarator_rules.proofs.lengths.wrap.Given as goal

abbrev pub invariant-loop-outer : goal.invariant-loop-outer
invariant-loop-outer l = record {
  seen : seen l.world ≡ seen l.fn.world;
  extends : Extends l.fn.world.table l.world.table;
  is : wrapped l.qualifiers (type_at l.world.table.terms l.ty.0) ≡ wrapped l.fn.qualifiers (type_at l.fn.world.table.terms l.fn.inner.0);
  small : All (λ q. q < 8) l.qualifiers;
  valid : l.ty.0 < length l.world.table.terms;
}

abbrev pub decreases-loop-outer : goal.decreases-loop-outer
decreases-loop-outer l = length l.qualifiers
