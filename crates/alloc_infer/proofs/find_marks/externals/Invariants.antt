use Rattle.std.specs.Prelude.{map}
use Rattle.c_tree.specs.View.{view_external}
use Rattle.c_checked.specs.Found.{known_of}
use Rattle.alloc_infer.specs.Adds.{AddsLeft, KeepsMarks, mark_of}
use Rattle.alloc_infer.specs.Sites.{marks_among}
use Rattle.alloc_infer.proofs.find_marks.externals.Given as goal

abbrev pub invariant-loop-x : goal.invariant-loop-x
invariant-loop-x l = record {
  adds : AddsLeft (mark_of l.c.notes.table.terms) l.initial.found l.found (λ xs. marks_among (known_of l.c.notes) (map view_external xs)) l.x-items l.x-index;
  valid : KeepsMarks l.c.notes l.initial.found l.found;
}
