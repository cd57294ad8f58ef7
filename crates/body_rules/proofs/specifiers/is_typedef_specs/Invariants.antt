use Rattle.c_tree.specs.View.{specs_of}
use Rattle.c_rules.specs.Unit as unit
use Rattle.body_rules.specs.Lists.{IsLeft}
use Rattle.body_rules.proofs.specifiers.is_typedef_specs.Given as goal

abbrev pub invariant-loop-spec : goal.invariant-loop-spec
invariant-loop-spec l = IsLeft (λ ss. unit.is_typedef_specs (specs_of ss)) l.spec-items l.spec-index
