use Rattle.std.proofs.Common.{◌∷◌, refl, sym, map}
use Rattle.c_tree.specs.Bare.{bare_external}
use Rattle.c_tree.specs.View.{view_external}
use Rattle.call_rewriter.specs.Plans.{hooks_seen}
use Rattle.call_rewriter.specs.Tagger.{externals_tagging, put_external}
use Rattle.call_rewriter.specs.Tagged as tagged
use Rattle.call_rewriter.specs.Tagged.{one, two}
use Rattle.call_rewriter.proofs.Numbering.{ends, goes_on, heads_two}
use Rattle.call_rewriter.proofs.tag_unit.externals.Goals as goal

pub loop-x-preserved : goal.loop-x-preserved
loop-x-preserved c =
    let max = c.args.plan.max in
    let h = hooks_seen c.args.plan.hooks in
    rw c.in_ok-push.ensures.ok
    (goes_on (externals_tagging max h) put_external max c.args.k.now c.loop-x.k c.external.new.k c.as_slice-x-items.result.now c.loop-x.ys c.loop-x.x-index c.x-item.result c.in_ok-y.y
    c.loop-x-test.true (sym c.x-item.is) (λ rest. heads_two max c.loop-x.k c.external.new.k (λ x xs. x ∷ xs) (tagged.tag_external max h (bare_external (view_external c.x-item.result))) (externals_tagging max h rest) (bare_external (view_external c.in_ok-y.y)) c.in_ok-y.ensures) c.loop-x.invariant)

pub returns : goal.returns
returns c =
    let max = c.args.plan.max in
    let h = hooks_seen c.args.plan.hooks in
    rw (sym c.as_slice-x-items.ensures)
    (ends (externals_tagging max h) put_external (λ zs. map bare_external (map view_external zs)) max c.args.k.now c.loop-x.k c.as_slice-x-items.result.now c.loop-x.ys c.loop-x.x-index refl (λ y zs. refl)
    c.loop-x-test.false c.loop-x.invariant)
