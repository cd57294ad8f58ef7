use Rattle.std.proofs.Common.{map}
use Rattle.c_tree.specs.View.{view_item}
use Rattle.c_rules.specs.Unit as unit
use Rattle.body_rules.specs.Lists.{IsLeft}
use Rattle.body_rules.proofs.specifiers.first_bare.Given as goal

abbrev pub invariant-loop-item : goal.invariant-loop-item
invariant-loop-item l = IsLeft (λ xs. unit.first_bare (map view_item xs)) l.items l.item-index
