use Rattle.std.proofs.Common.{map}
use Rattle.c_tree.specs.Bare.{bare_item}
use Rattle.c_tree.specs.Put.{put_item, put_more}
use Rattle.c_tree.specs.View.{view_item}
use Rattle.c_tree.specs.Spelling.{Left}
use Rattle.c_tree.proofs.spell_unit.items.Given as goal

abbrev pub invariant-loop-i : goal.invariant-loop-i
invariant-loop-i l = Left (λ xs. put_more put_item (map bare_item (map view_item xs))) l.initial.out l.out l.more l.i-index
