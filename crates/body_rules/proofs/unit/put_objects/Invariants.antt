use Rattle.std.proofs.Common.{◌≡◌, ◌++◌, map, drop}
use Rattle.c_tree.specs.View.{view_item}
use Rattle.c_rules.specs.Unit as rules
use Rattle.body_rules.proofs.unit.put_objects.Given as goal

abbrev pub invariant-loop-item : goal.invariant-loop-item
invariant-loop-item l =
    l.initial.names ++ rules.objects_among l.is_external (map view_item l.items)
    ≡ l.names ++ rules.objects_among l.is_external (map view_item (drop l.item-index l.items))
