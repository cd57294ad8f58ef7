use Rattle.std.specs.Prelude.{drop}
use Rattle.call_rewriter.specs.Plans.{hooks_seen}
use Rattle.call_rewriter.specs.Tagger.{TagsLeft, externals_tagging, put_external}
use Rattle.call_rewriter.proofs.tag_unit.externals.Given as goal

abbrev pub invariant-loop-x : goal.invariant-loop-x
invariant-loop-x l = TagsLeft (externals_tagging l.plan.max (hooks_seen l.plan.hooks)) put_external l.plan.max l.initial.k l.k l.x-items l.ys (drop l.x-index l.x-items)
