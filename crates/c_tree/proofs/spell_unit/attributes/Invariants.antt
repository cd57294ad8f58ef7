use Rattle.std.proofs.Common.{map}
use Rattle.c_tree.specs.Bare.{bare_attribute}
use Rattle.c_tree.specs.Put.{put_all, put_attribute}
use Rattle.c_tree.specs.View.{view_attribute}
use Rattle.c_tree.specs.Spelling.{Left}
use Rattle.c_tree.proofs.spell_unit.attributes.Given as goal

abbrev pub invariant-loop-a : goal.invariant-loop-a
invariant-loop-a l = Left (λ xs. put_all put_attribute (map bare_attribute (map view_attribute xs))) l.initial.out l.out l.a-items l.a-index
