use Rattle.std.proofs.Common.{take, sym, subst, ◌∙◌}
use Rattle.std.proofs.lemmas.List.{take_more}
use Rattle.range_heap.specs.Steps.{histories, MadeAll}
use Rattle.range_heap.proofs.Noting.{made_more}
use Rattle.range_heap.proofs.ranges.Ranges.make_all.Goals as goal

pub loop-call-preserved : goal.loop-call-preserved
loop-call-preserved c =
    let i = c.loop-call.invariant in (
      c.make.ensures.size ∙ i.0,
      subst (λ cs. MadeAll cs (histories c.args.self.now) (histories c.make.new.self)) (sym (take_more c.args.calls.now c.loop-call.call-index _ c.loop-call-test.true))
          (made_more (take c.loop-call.call-index c.args.calls.now) _ _ (histories c.args.self.now) (histories c.loop-call.self) (histories c.make.new.self) i.1 c.in_default.ensures.made),
    )
