use Rattle.c_tree.specs.View.{inits_of}
use Rattle.c_checked.specs.Found.{known_of}
use Rattle.alloc_infer.specs.Adds.{AddsLeft, KeepsSites, site_of}
use Rattle.alloc_infer.specs.Sites.{sites}
use Rattle.alloc_infer.specs.Walked.{in_inits}
use Rattle.alloc_infer.proofs.find_sites.+inits.Given as goal

abbrev pub invariant-inits-loop-g : goal.invariant-inits-loop-g
invariant-inits-loop-g l = record {
  adds : AddsLeft (site_of l.c.notes.table.terms) l.initial.found l.found (λ xs. in_inits (sites (known_of l.c.notes)) (inits_of xs)) l.g-items l.g-index;
  valid : KeepsSites l.c.notes l.initial.found l.found;
}
