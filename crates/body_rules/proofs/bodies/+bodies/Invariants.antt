use Rattle.c_tree.specs.View.{exprs_of, params_of}
use Rattle.c_rules.specs.Bodies as rules
use Rattle.body_rules.specs.Lists.{IsLeft}
use Rattle.body_rules.proofs.bodies.+bodies.Given as goal

abbrev pub invariant-any_has_body-loop-x : goal.invariant-any_has_body-loop-x
invariant-any_has_body-loop-x l = IsLeft (λ xs. rules.any_has_body (exprs_of xs)) l.x-items l.x-index

abbrev pub invariant-params_have_body-loop-param : goal.invariant-params_have_body-loop-param
invariant-params_have_body-loop-param l = IsLeft (λ ps. rules.params_have_body (params_of ps)) l.param-items l.param-index
