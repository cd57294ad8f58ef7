use Rattle.c_tree.specs.Put.{put_all, put_text}
use Rattle.c_tree.specs.Spelling.{Left}
use Rattle.c_tree.proofs.spell.texts.Given as goal

abbrev pub invariant-loop-t : goal.invariant-loop-t
invariant-loop-t l = Left (put_all put_text) l.initial.out l.out l.t-items l.t-index
