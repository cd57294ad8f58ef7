use Rattle.std.proofs.Common.{◌∙◌, ap, sym}
use Rattle.c_tree.specs.View.{view, exprs_of}
use Rattle.c_tree.proofs.Views.{view_builtin, view_call}
use Rattle.c_checked.specs.Found.{known_of}
use Rattle.alloc_infer.specs.Sites.{marks, marks_all}
use Rattle.alloc_infer.specs.declared.around.Around.TheVariants as near
use Rattle.alloc_infer.proofs.Kept.{kept, same_put, then_put}
use Rattle.alloc_infer.proofs.find_marks.+marks.Goals as goal

pub expr-returns-in_ok-expr-in-Comma-clause-valid : goal.expr-returns-in_ok-expr-in-Comma-clause-valid
expr-returns-in_ok-expr-in-Comma-clause-valid t c = kept _ _ _ c.expr-in-Comma.result c.expr-in-Comma.ensures.valid c.in_ok-expr-in-Comma.ensures.valid

pub expr-returns-in_ok-expr-in-Assign-clause-valid : goal.expr-returns-in_ok-expr-in-Assign-clause-valid
expr-returns-in_ok-expr-in-Assign-clause-valid t c = kept _ _ _ c.expr-in-Assign-2.result c.expr-in-Assign-2.ensures.valid c.in_ok-expr-in-Assign.ensures.valid

pub expr-returns-in_ok-expr-in-Cond-2-clause-valid : goal.expr-returns-in_ok-expr-in-Cond-2-clause-valid
expr-returns-in_ok-expr-in-Cond-2-clause-valid t c = kept _ _ _ c.expr-in-Cond-3.result c.expr-in-Cond-3.ensures.valid (λ h. c.in_ok-expr-in-Cond-2.ensures.valid (c.in_ok-expr-in-Cond.ensures.valid h))

pub expr-returns-in_ok-expr-in-Binary-clause-valid : goal.expr-returns-in_ok-expr-in-Binary-clause-valid
expr-returns-in_ok-expr-in-Binary-clause-valid t c = kept _ _ _ c.expr-in-Binary-2.result c.expr-in-Binary-2.ensures.valid c.in_ok-expr-in-Binary.ensures.valid

pub expr-returns-in_ok-expr-in-Index-clause-valid : goal.expr-returns-in_ok-expr-in-Index-clause-valid
expr-returns-in_ok-expr-in-Index-clause-valid t c = kept _ _ _ c.expr-in-Index-2.result c.expr-in-Index-2.ensures.valid c.in_ok-expr-in-Index.ensures.valid

pub expr-returns-in_ok-expr-in-Call-clause-valid : goal.expr-returns-in_ok-expr-in-Call-clause-valid
expr-returns-in_ok-expr-in-Call-clause-valid t c = kept _ _ _ c.exprs.result c.exprs.ensures.valid c.in_ok-expr-in-Call.ensures.valid

pub expr-returns-in_ok-expr-in-Call-clause-adds : goal.expr-returns-in_ok-expr-in-Call-clause-adds
expr-returns-in_ok-expr-in-Call-clause-adds t c =
    let k = known_of c.args.c.now.notes in
    then_put _ _ c.exprs.result _ _ _ _ _ c.in_ok-expr-in-Call.ensures.adds c.exprs.ensures.adds (λ more.
    ap (λ a. marks k near.Nothing (view a) (marks_all k (exprs_of c.in-Call.es) more)) c.deref-in-Call.ensures
    ∙ ap (λ a. marks k c.args._around a more) (sym (view_call c.in-Call.field-0 c.in-Call.f c.in-Call.es))
    ∙ ap (λ a. marks k c.args._around (view a) more) (sym c.in-Call.is))

pub expr-returns-in-Builtin-clause-adds : goal.expr-returns-in-Builtin-clause-adds
expr-returns-in-Builtin-clause-adds t c =
    let k = known_of c.args.c.now.notes in
    same_put _ _ c.put_builtin.result _ _ _ c.put_builtin.ensures.adds (λ more.
    ap (λ a. marks k c.args._around a more) (sym (view_builtin c.in-Builtin.at c.in-Builtin.es))
    ∙ ap (λ a. marks k c.args._around (view a) more) (sym c.in-Builtin.is))
