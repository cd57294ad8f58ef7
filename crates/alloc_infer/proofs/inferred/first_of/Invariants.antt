use Rattle.c_tree.specs.View.{exprs_of}
use Rattle.c_checked.specs.Found.{known_of}
use Rattle.body_rules.specs.Lists.{IsLeft}
use Rattle.alloc_infer.specs.Inferred as spec
use Rattle.alloc_infer.proofs.inferred.first_of.Given as goal

abbrev pub invariant-loop-e : goal.invariant-loop-e
invariant-loop-e l = IsLeft (λ xs. spec.first_of (known_of l.c.notes) (exprs_of xs)) l.e-items l.e-index
