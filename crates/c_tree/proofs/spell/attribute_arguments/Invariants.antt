use Rattle.std.proofs.Common.{map}
use Rattle.c_tree.specs.Bare.{bare_argument}
use Rattle.c_tree.specs.Put.{put_argument, put_more}
use Rattle.c_tree.specs.View.{view_argument}
use Rattle.c_tree.specs.Spelling.{Left}
use Rattle.c_tree.proofs.spell.attribute_arguments.Given as goal

abbrev pub invariant-loop-a : goal.invariant-loop-a
invariant-loop-a l = Left (λ xs. put_more put_argument (map bare_argument (map view_argument xs))) l.initial.out l.out l.more l.a-index
