use Rattle.std.proofs.Common.{◌∙◌, ap, sym}
use Rattle.c_tree.specs.View.{view_stmt}
use Rattle.c_tree.proofs.Views.{view_block}
use Rattle.c_checked.specs.Found.{known_of}
use Rattle.alloc_infer.specs.Sites.{sites}
use Rattle.alloc_infer.specs.Walked.{in_stmt}
use Rattle.alloc_infer.proofs.Kept.{kept, same_put}
use Rattle.alloc_infer.proofs.find_sites.+statements.Goals as goal

pub statement-returns-in-Block-clause-adds : goal.statement-returns-in-Block-clause-adds
statement-returns-in-Block-clause-adds t c =
    let k = known_of c.args.c.now.notes in
    same_put _ _ c.block.result _ _ _ c.block.ensures.adds (λ more.
    ap (λ s. in_stmt (sites k) s more) (sym (view_block c.in-Block.b.at c.in-Block.b.items))
    ∙ ap (λ s. in_stmt (sites k) (view_stmt s) more) (sym c.in-Block.is))

pub statement-returns-in_ok-expr-in-If-clause-valid : goal.statement-returns-in_ok-expr-in-If-clause-valid
statement-returns-in_ok-expr-in-If-clause-valid t c = kept _ _ _ c.statement.result c.statement.ensures.valid c.in_ok-expr-in-If.ensures.valid

pub statement-returns-in_ok-statement-in-IfElse-clause-valid : goal.statement-returns-in_ok-statement-in-IfElse-clause-valid
statement-returns-in_ok-statement-in-IfElse-clause-valid t c = kept _ _ _ c.statement-in-IfElse-2.result c.statement-in-IfElse-2.ensures.valid (λ h. c.in_ok-statement-in-IfElse.ensures.valid (c.in_ok-expr-in-IfElse.ensures.valid h))

pub statement-returns-in_ok-expr-in-While-clause-valid : goal.statement-returns-in_ok-expr-in-While-clause-valid
statement-returns-in_ok-expr-in-While-clause-valid t c = kept _ _ _ c.statement-in-While.result c.statement-in-While.ensures.valid c.in_ok-expr-in-While.ensures.valid

pub statement-returns-in_ok-statement-in-Do-clause-valid : goal.statement-returns-in_ok-statement-in-Do-clause-valid
statement-returns-in_ok-statement-in-Do-clause-valid t c = kept _ _ _ c.expr-in-Do.result c.expr-in-Do.ensures.valid c.in_ok-statement-in-Do.ensures.valid

pub statement-returns-in_ok-clauses-in-For-clause-valid : goal.statement-returns-in_ok-clauses-in-For-clause-valid
statement-returns-in_ok-clauses-in-For-clause-valid t c = kept _ _ _ c.statement-in-For.result c.statement-in-For.ensures.valid c.in_ok-clauses-in-For.ensures.valid
