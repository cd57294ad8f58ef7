use Rattle.c_tree.specs.View.{exprs_of}
use Rattle.c_checked.specs.Found.{known_of}
use Rattle.alloc_infer.specs.Adds.{AddsLeft, KeepsSites, site_of}
use Rattle.alloc_infer.specs.Sites.{sites_all}
use Rattle.alloc_infer.proofs.find_sites.+sites.Given as goal

abbrev pub invariant-exprs-loop-e : goal.invariant-exprs-loop-e
invariant-exprs-loop-e l = record {
  adds : AddsLeft (site_of l.c.notes.table.terms) l.initial.found l.found (λ xs. sites_all (known_of l.c.notes) (exprs_of xs)) l.e-items l.e-index;
  valid : KeepsSites l.c.notes l.initial.found l.found;
}
