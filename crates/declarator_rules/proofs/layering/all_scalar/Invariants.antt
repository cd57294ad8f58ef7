use Rattle.std.proofs.Common.{length, drop}
use Rattle.c_types.specs.Table.{AllBelow}
use Rattle.c_rules.specs.Declarators as rules
use Rattle.body_rules.specs.Lists.{IsLeft}
use Rattle.declarator_rules.specs.Layers.{all_types}
use Rattle.declarator_rules.proofs.layering.all_scalar.Given as goal

abbrev pub invariant-loop-parameter : goal.invariant-loop-parameter
invariant-loop-parameter l = record {
  left : IsLeft (λ is. rules.all_scalar (all_types l.world.table.terms is)) l.parameters l.parameter-index;
  below : AllBelow (length l.world.table.terms) (drop l.parameter-index l.parameters);
}
