use Rattle.c_tree.specs.View.{items_of}
use Rattle.c_checked.specs.Found.{known_of}
use Rattle.alloc_infer.specs.Adds.{AddsLeft, KeepsMarks, mark_of}
use Rattle.alloc_infer.specs.Sites.{marks}
use Rattle.alloc_infer.specs.Walked.{in_block}
use Rattle.alloc_infer.proofs.find_marks.+statements.Given as goal

abbrev pub invariant-block-loop-item : goal.invariant-block-loop-item
invariant-block-loop-item l = record {
  adds : AddsLeft (mark_of l.c.notes.table.terms) l.initial.found l.found (λ xs. in_block (marks (known_of l.c.notes)) (items_of xs)) l.item-items l.item-index;
  valid : KeepsMarks l.c.notes l.initial.found l.found;
}
