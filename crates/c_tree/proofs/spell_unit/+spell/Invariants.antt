use Rattle.c_tree.specs.Bare.{bare_inits}
use Rattle.c_tree.specs.Put.{put_more_inits}
use Rattle.c_tree.specs.View.{inits_of}
use Rattle.c_tree.specs.Spelling.{Left}
use Rattle.c_tree.proofs.spell_unit.+spell.Given as goal

abbrev pub invariant-inits-loop-i : goal.invariant-inits-loop-i
invariant-inits-loop-i l = Left (λ is. put_more_inits (bare_inits (inits_of is))) l.initial.out l.out l.more l.i-index
