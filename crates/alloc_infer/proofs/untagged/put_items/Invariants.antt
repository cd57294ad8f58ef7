use Rattle.std.specs.Prelude.{◌≡◌, map, drop}
use Rattle.c_tree.specs.View.{view_item}
use Rattle.alloc_infer.specs.Untagged as spec
use Rattle.alloc_infer.proofs.untagged.put_items.Given as goal

abbrev pub invariant-loop-item : goal.invariant-loop-item
invariant-loop-item l =
    spec.with_items l.by_specs (map view_item l.item-items) l.initial.names
    ≡ spec.with_items l.by_specs (map view_item (drop l.item-index l.item-items)) l.names
