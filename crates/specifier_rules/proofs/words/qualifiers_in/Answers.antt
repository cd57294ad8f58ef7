use Rattle.std.proofs.Common.{add-one}
use Rattle.c_tree.specs.View.{view_keyword}
use Rattle.c_tree.specs.declared.operator.Keyword.TheVariants as k
use Rattle.std.proofs.lemmas.Nat.{or_lt}
use Rattle.body_rules.proofs.Qualifiers.{gathered_all, gathered_step}
use Rattle.specifier_rules.proofs.words.qualifiers_in.Goals as goal

pub loop-word-preserved : goal.loop-word-preserved
loop-word-preserved c = record {
  is = rw add-one (gathered_step view_keyword k.Typedef c.args.words.now c.loop-word.met _ c.loop-word.word-index c.qualifier-met.result c.loop-word-test.true c.qualifier-met.ensures.is c.loop-word.invariant.is);
  small = or_lt 3 c.loop-word.met c.qualifier-met.result c.loop-word.invariant.small c.qualifier-met.ensures.small;
}

pub returns-clause-is : goal.returns-clause-is
returns-clause-is c = gathered_all view_keyword c.args.words.now c.loop-word.met _ c.loop-word.word-index c.loop-word-test.false c.loop-word.invariant.is
