use Rattle.std.specs.Prelude.{map}
use Rattle.c_tree.specs.View.{view_item}
use Rattle.c_tree.specs.Bare.{bare_item}
use Rattle.call_rewriter.specs.Mentions.{items_mentions}
use Rattle.call_rewriter.specs.Survey.{NotesLeft}
use Rattle.call_rewriter.proofs.survey.items.Given as goal

abbrev pub invariant-loop-i : goal.invariant-loop-i
invariant-loop-i l = NotesLeft (λ xs. items_mentions l.at_file (map bare_item (map view_item xs))) l.initial.s l.s l.i-items l.i-index
