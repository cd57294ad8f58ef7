use Rattle.std.specs.Prelude.{drop}
use Rattle.call_rewriter.specs.Plans.{hooks_seen}
use Rattle.call_rewriter.specs.Tagger.{TagsLeft, items_tagging, put_item}
use Rattle.call_rewriter.proofs.tag_unit.items.Given as goal

abbrev pub invariant-loop-x : goal.invariant-loop-x
invariant-loop-x l = TagsLeft (items_tagging l.plan.max (hooks_seen l.plan.hooks)) put_item l.plan.max l.initial.k l.k l.x-items l.ys (drop l.x-index l.x-items)
