use Rattle.std.proofs.Common.{◌∷◌, refl, sym, map}
use Rattle.c_tree.specs.Bare.{bare_item}
use Rattle.c_tree.specs.View.{view_item}
use Rattle.call_rewriter.specs.Plans.{hooks_seen}
use Rattle.call_rewriter.specs.Tagger.{items_tagging, put_item}
use Rattle.call_rewriter.specs.Tagged as tagged
use Rattle.call_rewriter.specs.Tagged.{one, two}
use Rattle.call_rewriter.proofs.Numbering.{ends, goes_on, heads_two}
use Rattle.call_rewriter.proofs.tag_unit.items.Goals as goal

pub loop-x-preserved : goal.loop-x-preserved
loop-x-preserved c =
    let max = c.args.plan.max in
    let h = hooks_seen c.args.plan.hooks in
    rw c.in_ok-push.ensures.ok
    (goes_on (items_tagging max h) put_item max c.args.k.now c.loop-x.k c.item.new.k c.as_slice-x-items.result.now c.loop-x.ys c.loop-x.x-index c.x-item.result c.in_ok-y.y
    c.loop-x-test.true (sym c.x-item.is) (λ rest. heads_two max c.loop-x.k c.item.new.k (λ i is. i ∷ is) (tagged.tag_item max h (bare_item (view_item c.x-item.result))) (items_tagging max h rest) (bare_item (view_item c.in_ok-y.y)) c.in_ok-y.ensures) c.loop-x.invariant)

pub returns : goal.returns
returns c =
    let max = c.args.plan.max in
    let h = hooks_seen c.args.plan.hooks in
    rw (sym c.as_slice-x-items.ensures)
    (ends (items_tagging max h) put_item (λ zs. map bare_item (map view_item zs)) max c.args.k.now c.loop-x.k c.as_slice-x-items.result.now c.loop-x.ys c.loop-x.x-index refl (λ y zs. refl)
    c.loop-x-test.false c.loop-x.invariant)
