use Rattle.std.proofs.Common.{◌<◌, All, length}
use Rattle.c_types.specs.Table.{type_at}
use Rattle.declarator_rules.specs.Lengths.{IsUnwrapped}
use Rattle.declarator_rules.proofs.lengths.unwrap.Given as goal

abbrev pub invariant-loop-inner : goal.invariant-loop-inner
invariant-loop-inner l = record {
  is : IsUnwrapped (type_at l.world.table.terms l.fn.ty.0) l.qualifiers (type_at l.world.table.terms l.array.0);
  small : All (λ q. q < 8) l.qualifiers;
  valid : l.array.0 < length l.world.table.terms;
}

abbrev pub decreases-loop-inner : goal.decreases-loop-inner
decreases-loop-inner l = l.array.0
