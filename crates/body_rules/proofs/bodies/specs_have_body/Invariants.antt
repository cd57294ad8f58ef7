use Rattle.c_tree.specs.View.{specs_of}
use Rattle.c_rules.specs.Bodies as rules
use Rattle.body_rules.specs.Lists.{IsLeft}
use Rattle.body_rules.proofs.bodies.specs_have_body.Given as goal

abbrev pub invariant-loop-spec : goal.invariant-loop-spec
invariant-loop-spec l = IsLeft (λ ss. rules.specs_have_body (specs_of ss)) l.spec-items l.spec-index
