use Rattle.std.proofs.Common.{◌∙◌, ap, sym}
use Rattle.c_tree.specs.View.{view, exprs_of}
use Rattle.c_tree.proofs.Views.{view_call}
use Rattle.c_checked.specs.Found.{known_of}
use Rattle.alloc_infer.specs.Sites.{callee_of, sites, sites_all, with_call}
use Rattle.alloc_infer.specs.declared.around.Around.TheVariants as near
use Rattle.alloc_infer.proofs.Kept.{kept, both, then_put}
use Rattle.alloc_infer.proofs.find_sites.+sites.Goals as goal

pub expr-returns-in_ok-expr-in-Comma-clause-valid : goal.expr-returns-in_ok-expr-in-Comma-clause-valid
expr-returns-in_ok-expr-in-Comma-clause-valid t c = kept _ _ _ c.expr-in-Comma.result c.expr-in-Comma.ensures.valid c.in_ok-expr-in-Comma.ensures.valid

pub expr-returns-in_ok-expr-in-Assign-clause-valid : goal.expr-returns-in_ok-expr-in-Assign-clause-valid
expr-returns-in_ok-expr-in-Assign-clause-valid t c = kept _ _ _ c.expr-in-Assign-2.result c.expr-in-Assign-2.ensures.valid c.in_ok-expr-in-Assign.ensures.valid

pub expr-returns-in_ok-expr-in-Cond-2-clause-valid : goal.expr-returns-in_ok-expr-in-Cond-2-clause-valid
expr-returns-in_ok-expr-in-Cond-2-clause-valid t c = kept _ _ _ c.expr-in-Cond-3.result c.expr-in-Cond-3.ensures.valid (λ h. c.in_ok-expr-in-Cond-2.ensures.valid (c.in_ok-expr-in-Cond.ensures.valid h))

pub expr-returns-in_ok-expr-in-Binary-clause-valid : goal.expr-returns-in_ok-expr-in-Binary-clause-valid
expr-returns-in_ok-expr-in-Binary-clause-valid t c = kept _ _ _ c.expr-in-Binary-2.result c.expr-in-Binary-2.ensures.valid c.in_ok-expr-in-Binary.ensures.valid

pub expr-returns-in_ok-expr-in-Index-clause-valid : goal.expr-returns-in_ok-expr-in-Index-clause-valid
expr-returns-in_ok-expr-in-Index-clause-valid t c = kept _ _ _ c.expr-in-Index-2.result c.expr-in-Index-2.ensures.valid c.in_ok-expr-in-Index.ensures.valid

pub expr-returns-in_ok-expr-in-Call-clause-valid : goal.expr-returns-in_ok-expr-in-Call-clause-valid
expr-returns-in_ok-expr-in-Call-clause-valid t c = kept _ _ _ c.exprs.result c.exprs.ensures.valid (λ h. c.in_ok-expr-in-Call.ensures.valid (c.in_ok-put_call-in-Call.ensures.valid h))

pub expr-returns-in_ok-expr-in-Call-clause-adds : goal.expr-returns-in_ok-expr-in-Call-clause-adds
expr-returns-in_ok-expr-in-Call-clause-adds t c =
    let k = known_of c.args.c.now.notes in
    let es = exprs_of c.in-Call.es in
    let called = with_call k c.args.around c.in-Call.at (view c.deref-in-Call.result.now) es (callee_of k (view c.deref-in-Call.result.now)) in
    let inside = sites k near.Nothing (view c.deref-in-Call-2.result.now) in
    then_put _ _ c.exprs.result _ _ (λ more. called (inside more)) _ _ (both _ _ _ _ called inside c.in_ok-put_call-in-Call.ensures.adds c.in_ok-expr-in-Call.ensures.adds) c.exprs.ensures.adds (λ more.
    ap (λ f. with_call k c.args.around c.in-Call.at (view f) es (callee_of k (view f)) (sites k near.Nothing (view c.deref-in-Call-2.result.now) (sites_all k es more))) c.deref-in-Call.ensures
    ∙ ap (λ f. with_call k c.args.around c.in-Call.at (view c.in-Call.f.value) es (callee_of k (view c.in-Call.f.value)) (sites k near.Nothing (view f) (sites_all k es more))) c.deref-in-Call-2.ensures
    ∙ ap (λ a. sites k c.args.around a more) (sym (view_call c.in-Call.at c.in-Call.f c.in-Call.es))
    ∙ ap (λ a. sites k c.args.around (view a) more) (sym c.in-Call.is))
