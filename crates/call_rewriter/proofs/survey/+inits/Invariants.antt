use Rattle.c_tree.specs.View.{inits_of}
use Rattle.c_tree.specs.Bare.{bare_inits}
use Rattle.call_rewriter.specs.Mentions.{inits_mentions}
use Rattle.call_rewriter.specs.Survey.{NotesLeft}
use Rattle.call_rewriter.proofs.survey.+inits.Given as goal

abbrev pub invariant-inits-loop-i : goal.invariant-inits-loop-i
invariant-inits-loop-i l = NotesLeft (λ xs. inits_mentions (bare_inits (inits_of xs))) l.initial.s l.s l.i-items l.i-index
