use Rattle.std.proofs.Common.{map}
use Rattle.c_tree.specs.Bare.{bare_external}
use Rattle.c_tree.specs.Put.{put_unit}
use Rattle.c_tree.specs.View.{view_external}
use Rattle.c_tree.specs.Spelling.{Left}
use Rattle.c_tree.proofs.spell_unit.externals.Given as goal

abbrev pub invariant-loop-x : goal.invariant-loop-x
invariant-loop-x l = Left (λ xs. put_unit (map bare_external (map view_external xs))) l.initial.out l.out l.x-items l.x-index
