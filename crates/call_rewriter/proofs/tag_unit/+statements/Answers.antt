use Rattle.std.proofs.Common.{◌∙◌, ap, refl, sym}
use Rattle.c_tree.specs.Tree as u
use Rattle.c_tree.specs.Marked as m
use Rattle.c_tree.specs.Bare.{bare_block, bare_stmt}
use Rattle.c_tree.specs.View.{items_of, view_stmt}
use Rattle.c_tree.proofs.Views.{view_block}
use Rattle.call_rewriter.specs.Plans.{hooks_seen}
use Rattle.call_rewriter.specs.Tagger.{block_tagging, put_block_item}
use Rattle.call_rewriter.specs.Tagged as tagged
use Rattle.call_rewriter.specs.Tagged.{one, two}
use Rattle.call_rewriter.proofs.Numbering.{ends, goes_on, tags_like, tags_one, tags_two}
use Rattle.call_rewriter.proofs.tag_unit.+statements.Goals as goal
use Rattle.call_rewriter.proofs.Heads.{block_shown}

pub block-loop-x-preserved : goal.block-loop-x-preserved
block-loop-x-preserved t c =
    let max = c.args.plan.max in
    let h = hooks_seen c.args.plan.hooks in
    rw c.in_ok-push.ensures.ok
    (goes_on (block_tagging max h) put_block_item max c.args.k.now c.loop-x.k c.block_item.new.k c.as_slice-x-items.result.now c.loop-x.ys c.loop-x.x-index c.x-item.result c.in_ok-y.y
    c.loop-x-test.true (sym c.x-item.is) c.in_ok-y.ensures c.loop-x.invariant)

pub block-returns : goal.block-returns
block-returns t c =
    let max = c.args.plan.max in
    let h = hooks_seen c.args.plan.hooks in
    rw (sym c.as_slice-x-items.ensures)
    (ends (block_tagging max h) put_block_item (λ zs. bare_block (items_of zs)) max c.args.k.now c.loop-x.k c.as_slice-x-items.result.now c.loop-x.ys c.loop-x.x-index refl block_shown
    c.loop-x-test.false c.loop-x.invariant)

pub statement-returns-in_ok-items-in-Block : goal.statement-returns-in_ok-items-in-Block
statement-returns-in_ok-items-in-Block t c =
    let max = c.args.plan.max in
    let h = hooks_seen c.args.plan.hooks in
    let b = c.in-Block.b in
    rw c.new.ensures
    (tags_like max c.args.k.now c.block.new.k (one u.Block (block_tagging max h b.items)) _ _ _
    (ap (λ s. tagged.tag_stmt max h (bare_stmt (view_stmt s))) c.in-Block.is ∙ ap (λ s. tagged.tag_stmt max h (bare_stmt s)) (view_block b.at b.items))
    (ap bare_stmt (c.block-in-Block.ensures ∙ ap (λ is. m.Block b.at (items_of is)) c.open.ensures)) (tags_one max _ _ u.Block _ _ c.in_ok-items-in-Block.ensures))

pub statement-returns-in_ok-t-in-IfElse : goal.statement-returns-in_ok-t-in-IfElse
statement-returns-in_ok-t-in-IfElse t c =
    rw c.new-in-IfElse.ensures (rw c.open-in-IfElse.ensures (rw c.open-in-IfElse-2.ensures (rw c.open-in-IfElse-3.ensures (rw c.in-IfElse.is (rw (sym c.deref-in-IfElse.ensures) (rw (sym c.deref-in-IfElse-2.ensures)
    (tags_two {A = u.Stmt → u.Stmt} {B = u.Stmt} {C = u.Stmt} c.args.plan.max _ _ _ (λ g x. g x) _ _ _ _
    (tags_two c.args.plan.max _ _ _ (λ c s t. u.IfElse c s t) _ _ _ _ c.in_ok-c-in-IfElse.ensures c.in_ok-s-in-IfElse.ensures) c.in_ok-t-in-IfElse.ensures)))))))

pub statement-returns-in_ok-s-in-For : goal.statement-returns-in_ok-s-in-For
statement-returns-in_ok-s-in-For t c =
    rw c.new-in-For.ensures (rw c.open-in-For.ensures (rw c.opened-in-For.ensures (rw c.opened-in-For-2.ensures (rw c.open-in-For-2.ensures (rw c.in-For.is (rw (sym c.deref-in-For.ensures)
    (tags_two {A = u.Stmt → u.Stmt} {B = u.Stmt} {C = u.Stmt} c.args.plan.max _ _ _ (λ g x. g x) _ _ _ _
    (tags_two {A = u.MaybeExpr → u.Stmt → u.Stmt} {B = u.MaybeExpr} {C = u.Stmt → u.Stmt} c.args.plan.max _ _ _ (λ g x. g x) _ _ _ _
    (tags_two c.args.plan.max _ _ _ (λ i c e s. u.For i c e s) _ _ _ _ c.in_ok-i-in-For.ensures c.in_ok-c-in-For.ensures) c.in_ok-e-in-For.ensures) c.in_ok-s-in-For.ensures)))))))
