use Rattle.std.specs.Prelude.{drop}
use Rattle.call_rewriter.specs.Plans.{hooks_seen}
use Rattle.call_rewriter.specs.Tagger.{TagsLeft, inits_tagging, put_init}
use Rattle.call_rewriter.proofs.tag_unit.+inits.Given as goal

abbrev pub invariant-inits-loop-x : goal.invariant-inits-loop-x
invariant-inits-loop-x l = TagsLeft (inits_tagging l.plan.max (hooks_seen l.plan.hooks)) put_init l.plan.max l.initial.k l.k l.x-items l.ys (drop l.x-index l.x-items)
