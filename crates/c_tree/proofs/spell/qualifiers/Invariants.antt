use Rattle.std.proofs.Common.{map}
use Rattle.c_tree.specs.Put.{put_all, put_word}
use Rattle.c_tree.specs.View.{view_qualifier}
use Rattle.c_tree.specs.Spelling.{Left}
use Rattle.c_tree.proofs.spell.qualifiers.Given as goal

abbrev pub invariant-loop-q : goal.invariant-loop-q
invariant-loop-q l = Left (λ qs. put_all put_word (map view_qualifier qs)) l.initial.out l.out l.q-items l.q-index
