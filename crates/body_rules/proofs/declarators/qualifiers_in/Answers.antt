use Rattle.std.proofs.Common.{◌∙◌, ap, map, add-one}
use Rattle.c_tree.specs.View.{view_qualifier}
use Rattle.c_tree.specs.declared.operator.Qualifier.TheVariants.{Const}
use Rattle.c_rules.specs.Specifiers.{qualifiers_in}
use Rattle.std.proofs.lemmas.Nat.{or_lt}
use Rattle.body_rules.proofs.Qualifiers.{gathered_all, gathered_step}
use Rattle.body_rules.proofs.declarators.qualifiers_in.Goals as goal

pub loop-qualifier-preserved : goal.loop-qualifier-preserved
loop-qualifier-preserved c = record {
  is = rw add-one (gathered_step view_qualifier Const c.as_slice-qualifier-items.result.now c.loop-qualifier.met _ c.loop-qualifier.qualifier-index c.number_of-met.result c.loop-qualifier-test.true c.number_of-met.ensures.is c.loop-qualifier.invariant.is);
  small = or_lt 3 c.loop-qualifier.met c.number_of-met.result c.loop-qualifier.invariant.small c.number_of-met.ensures.small;
}

pub returns-clause-is : goal.returns-clause-is
returns-clause-is c =
    gathered_all view_qualifier c.as_slice-qualifier-items.result.now c.loop-qualifier.met _ c.loop-qualifier.qualifier-index c.loop-qualifier-test.false c.loop-qualifier.invariant.is
    ∙ ap (λ qs. qualifiers_in (map view_qualifier qs)) c.as_slice-qualifier-items.ensures
