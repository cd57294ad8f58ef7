use Rattle.std.proofs.Common.{◌≡◌, map}
use Rattle.c_tree.specs.View.{view_item}
use Rattle.c_types.specs.CTypes.{CType}
use Rattle.c_types.specs.Plain as plain
use Rattle.c_rules.specs.Unit as unit
use Rattle.body_rules.specs.Lists.{IsLeft}
use Rattle.body_rules.proofs.items.any_calls_at_name.Given as goal

abbrev pub invariant-loop-item : goal.invariant-loop-item
invariant-loop-item l = (base : CType) → plain.is_function (plain.plain base) ≡ l.is_base_function → IsLeft (λ xs. unit.any_function base (map view_item xs)) l.items l.item-index
