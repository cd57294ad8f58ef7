use Rattle.c_tree.specs.View.{items_of}
use Rattle.c_tree.specs.Bare.{bare_block}
use Rattle.call_rewriter.specs.Mentions.{block_mentions}
use Rattle.call_rewriter.specs.Survey.{NotesLeft}
use Rattle.call_rewriter.proofs.survey.+statements.Given as goal

abbrev pub invariant-block-loop-item : goal.invariant-block-loop-item
invariant-block-loop-item l = NotesLeft (λ xs. block_mentions (bare_block (items_of xs))) l.initial.s l.s l.item-items l.item-index
