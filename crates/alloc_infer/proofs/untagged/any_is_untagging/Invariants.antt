use Rattle.std.specs.Prelude.{map}
use Rattle.std.specs.List.{list_any}
use Rattle.c_tree.specs.View.{view_attribute}
use Rattle.body_rules.specs.Lists.{IsLeft}
use Rattle.alloc_infer.specs.Untagged as spec
use Rattle.alloc_infer.proofs.untagged.any_is_untagging.Given as goal

abbrev pub invariant-loop-attribute : goal.invariant-loop-attribute
invariant-loop-attribute l = IsLeft (λ xs. list_any spec.is_untagging (map view_attribute xs)) l.attribute-items l.attribute-index
