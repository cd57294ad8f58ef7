use Rattle.c_tree.specs.Bare.{bare_block}
use Rattle.c_tree.specs.Put.{put_block}
use Rattle.c_tree.specs.View.{items_of}
use Rattle.c_tree.specs.Spelling.{Left}
use Rattle.c_tree.proofs.spell_unit.+statements.Given as goal

abbrev pub invariant-block-loop-item : goal.invariant-block-loop-item
invariant-block-loop-item l = Left (λ is. put_block (bare_block (items_of is))) l.initial.out l.out l.item-items l.item-index
