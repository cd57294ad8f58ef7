use Rattle.c_tree.specs.View.{items_of}
use Rattle.c_checked.specs.Found.{known_of}
use Rattle.alloc_infer.specs.Adds.{AddsLeft, KeepsSites, site_of}
use Rattle.alloc_infer.specs.Sites.{sites}
use Rattle.alloc_infer.specs.Walked.{in_block}
use Rattle.alloc_infer.proofs.find_sites.+statements.Given as goal

abbrev pub invariant-block-loop-item : goal.invariant-block-loop-item
invariant-block-loop-item l = record {
  adds : AddsLeft (site_of l.c.notes.table.terms) l.initial.found l.found (λ xs. in_block (sites (known_of l.c.notes)) (items_of xs)) l.item-items l.item-index;
  valid : KeepsSites l.c.notes l.initial.found l.found;
}
