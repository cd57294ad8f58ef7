use Rattle.std.specs.Prelude.{drop}
use Rattle.call_rewriter.specs.Plans.{hooks_seen}
use Rattle.call_rewriter.specs.Tagger.{TagsLeft, block_tagging, put_block_item}
use Rattle.call_rewriter.proofs.tag_unit.+statements.Given as goal

abbrev pub invariant-block-loop-x : goal.invariant-block-loop-x
invariant-block-loop-x l = TagsLeft (block_tagging l.plan.max (hooks_seen l.plan.hooks)) put_block_item l.plan.max l.initial.k l.k l.x-items l.ys (drop l.x-index l.x-items)
