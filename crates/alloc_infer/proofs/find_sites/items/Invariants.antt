use Rattle.std.specs.Prelude.{map}
use Rattle.c_tree.specs.View.{view_item}
use Rattle.c_checked.specs.Found.{known_of}
use Rattle.alloc_infer.specs.Adds.{AddsLeft, KeepsSites, site_of}
use Rattle.alloc_infer.specs.Sites.{sites}
use Rattle.alloc_infer.specs.Walked.{in_items}
use Rattle.alloc_infer.proofs.find_sites.items.Given as goal

abbrev pub invariant-loop-item : goal.invariant-loop-item
invariant-loop-item l = record {
  adds : AddsLeft (site_of l.c.notes.table.terms) l.initial.found l.found (λ xs. in_items (sites (known_of l.c.notes)) (map view_item xs)) l.item-items l.item-index;
  valid : KeepsSites l.c.notes l.initial.found l.found;
}
