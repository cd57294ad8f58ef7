use Rattle.std.proofs.Common.{◌∙◌, ap, refl, sym}
use Rattle.c_tree.specs.Tree as u
use Rattle.c_tree.specs.Marked as m
use Rattle.c_tree.specs.Bare.{bare_init, bare_inits}
use Rattle.c_tree.specs.View.{inits_of, view_init}
use Rattle.c_tree.proofs.Views.{view_braces}
use Rattle.call_rewriter.specs.Plans.{hooks_seen}
use Rattle.call_rewriter.specs.Tagger.{inits_tagging, put_init}
use Rattle.call_rewriter.specs.Tagged as tagged
use Rattle.call_rewriter.specs.Tagged.{one, two}
use Rattle.call_rewriter.proofs.Numbering.{ends, goes_on, heads_two, tags_like, tags_one}
use Rattle.call_rewriter.proofs.tag_unit.+inits.Goals as goal

pub inits-loop-x-preserved : goal.inits-loop-x-preserved
inits-loop-x-preserved t c =
    let max = c.args.plan.max in
    let h = hooks_seen c.args.plan.hooks in
    rw c.in_ok-push.ensures.ok
    (goes_on (inits_tagging max h) put_init max c.args.k.now c.loop-x.k c.init.new.k c.as_slice-x-items.result.now c.loop-x.ys c.loop-x.x-index c.x-item.result c.in_ok-y.y
    c.loop-x-test.true (sym c.x-item.is) (λ rest. heads_two max c.loop-x.k c.init.new.k u.init (tagged.tag_init max h (bare_init (view_init c.x-item.result))) (inits_tagging max h rest) (bare_init (view_init c.in_ok-y.y)) c.in_ok-y.ensures) c.loop-x.invariant)

pub inits-returns : goal.inits-returns
inits-returns t c =
    let max = c.args.plan.max in
    let h = hooks_seen c.args.plan.hooks in
    rw (sym c.as_slice-x-items.ensures)
    (ends (inits_tagging max h) put_init (λ zs. bare_inits (inits_of zs)) max c.args.k.now c.loop-x.k c.as_slice-x-items.result.now c.loop-x.ys c.loop-x.x-index refl (λ y zs. refl)
    c.loop-x-test.false c.loop-x.invariant)

pub init-returns-in_ok-is-in-Braces : goal.init-returns-in_ok-is-in-Braces
init-returns-in_ok-is-in-Braces t c =
    let max = c.args.plan.max in
    let h = hooks_seen c.args.plan.hooks in
    let is = c.in-Braces.is' in
    let comma = c.in-Braces.has_comma in
    tags_like max c.args.k.now c.inits.new.k (one (λ is. u.Braces is comma) (inits_tagging max h is)) _ _ _
    (ap (λ i. tagged.tag_init max h (bare_init (view_init i))) c.in-Braces.is ∙ ap (λ i. tagged.tag_init max h (bare_init i)) (view_braces c.in-Braces.at is comma))
    (ap bare_init (c.braces.ensures ∙ ap (λ ys. m.Braces c.in-Braces.at (inits_of ys) comma) c.open-in-Braces.ensures)) (tags_one max _ _ (λ is. u.Braces is comma) _ _ c.in_ok-is-in-Braces.ensures)
