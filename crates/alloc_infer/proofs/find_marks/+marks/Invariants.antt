use Rattle.c_tree.specs.View.{exprs_of}
use Rattle.c_checked.specs.Found.{known_of}
use Rattle.alloc_infer.specs.Adds.{AddsLeft, KeepsMarks, mark_of}
use Rattle.alloc_infer.specs.Sites.{marks_all}
use Rattle.alloc_infer.proofs.find_marks.+marks.Given as goal

abbrev pub invariant-exprs-loop-e : goal.invariant-exprs-loop-e
invariant-exprs-loop-e l = record {
  adds : AddsLeft (mark_of l.c.notes.table.terms) l.initial.found l.found (λ xs. marks_all (known_of l.c.notes) (exprs_of xs)) l.e-items l.e-index;
  valid : KeepsMarks l.c.notes l.initial.found l.found;
}
