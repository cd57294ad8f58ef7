use Rattle.c_tree.specs.View.{specs_of}
use Rattle.body_rules.specs.Lists.{IsLeft}
use Rattle.alloc_infer.specs.Untagged as spec
use Rattle.alloc_infer.proofs.untagged.specs_untag.Given as goal

abbrev pub invariant-loop-specifier : goal.invariant-loop-specifier
invariant-loop-specifier l = IsLeft (λ xs. spec.specs_untag (specs_of xs)) l.specifier-items l.specifier-index
