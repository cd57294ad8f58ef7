-- What tree each form in memory is.
use Rattle.std.proofs.Common.{◌≡◌, ℕ, Bool, List, [], ◌∷◌, Option, Some, None, refl, ap}
use Rattle.tok_base.specs.declared.token.Span.{Span}
use Rattle.num_ops.specs.declared.kinds.IntKind.{IntKind}
use Rattle.num_ops.specs.declared.arithmetic.Op.{Op}
use Rattle.num_ops.specs.declared.shifts.Cmp.{Cmp}
use Rattle.c_core.specs.declared.values.Scalar.{Scalar}
use Rattle.c_core.specs.declared.tree.LibMark.{LibMark}
use Rattle.c_core.specs.declared.tree.ModifyOp.{ModifyOp}
use Rattle.c_core.specs.declared.tree.Expr.{Expr as CExpr}
use Rattle.c_core.specs.declared.tree.Form.TheVariants as CV
use Rattle.c_core.specs.declared.tree.Form.TheBlock.{shape-the_row-Expr-0, hidden-the_row-Expr-0, shape-the_row-Expr-1, hidden-the_row-Expr-1}
use denote.Hole.Carrier.{hidden}
use Rattle.c_core.specs.declared.tree.Stmt as S
use Rattle.c_core.specs.declared.tree.Stmt.TheVariants as SV
use Rattle.c_core.specs.declared.tree.Stmt.TheBlock as SB
use Rattle.c_core.specs.Tree as t
use Rattle.c_core.specs.View.{form_of, expr_of, exprs_of, exprs_of_row, maybe_expr_of, stmt_of, stmts_of, stmts_of_row}

pub view_row : (es : List CExpr) → exprs_of_row (hidden-the_row-Expr-1 es) ≡ exprs_of es
unfolding shape-the_row-Expr-1 hidden-the_row-Expr-1 hidden
view_row [] = refl
view_row (e ∷ es) = ap (t.one_expr (expr_of e)) (view_row es)

pub view_load : (place : CExpr) (kind : Scalar) → form_of (CV.Load place kind) ≡ t.Load (expr_of place) kind
unfolding shape-the_row-Expr-0 hidden-the_row-Expr-0 hidden
view_load place kind = refl

pub view_store : (place : CExpr) (at : Span) (kind : Scalar) (value : CExpr) → form_of (CV.Store place at kind value) ≡ t.Store (expr_of place) at kind (expr_of value)
unfolding shape-the_row-Expr-0 hidden-the_row-Expr-0 hidden
view_store place at kind value = refl

pub view_copy_record : (to : CExpr) (to_at : Span) (from : CExpr) (from_at : Span) (size : ℕ) → form_of (CV.CopyRecord to to_at from from_at size) ≡ t.CopyRecord (expr_of to) to_at (expr_of from) from_at size
unfolding shape-the_row-Expr-0 hidden-the_row-Expr-0 hidden
view_copy_record to to_at from from_at size = refl

pub view_convert : (kind : IntKind) (value : CExpr) → form_of (CV.Convert kind value) ≡ t.Convert kind (expr_of value)
unfolding shape-the_row-Expr-0 hidden-the_row-Expr-0 hidden
view_convert kind value = refl

pub view_truth : (value : CExpr) (negated : Bool) → form_of (CV.Truth value negated) ≡ t.Truth (expr_of value) negated
unfolding shape-the_row-Expr-0 hidden-the_row-Expr-0 hidden
view_truth value negated = refl

pub view_arith : (op : Op) (left : CExpr) (right : CExpr) → form_of (CV.Arith op left right) ≡ t.Arith op (expr_of left) (expr_of right)
unfolding shape-the_row-Expr-0 hidden-the_row-Expr-0 hidden
view_arith op left right = refl

pub view_shift_bits : (to_left : Bool) (left : CExpr) (right : CExpr) → form_of (CV.ShiftBits to_left left right) ≡ t.ShiftBits to_left (expr_of left) (expr_of right)
unfolding shape-the_row-Expr-0 hidden-the_row-Expr-0 hidden
view_shift_bits to_left left right = refl

pub view_compare_int : (op : Cmp) (left : CExpr) (right : CExpr) → form_of (CV.CompareInt op left right) ≡ t.CompareInt op (expr_of left) (expr_of right)
unfolding shape-the_row-Expr-0 hidden-the_row-Expr-0 hidden
view_compare_int op left right = refl

pub view_ptr_add : (pointer : CExpr) (index : CExpr) (size : ℕ) (minus : Bool) → form_of (CV.PtrAdd pointer index size minus) ≡ t.PtrAdd (expr_of pointer) (expr_of index) size minus
unfolding shape-the_row-Expr-0 hidden-the_row-Expr-0 hidden
view_ptr_add pointer index size minus = refl

pub view_ptr_diff : (left : CExpr) (right : CExpr) (size : ℕ) → form_of (CV.PtrDiff left right size) ≡ t.PtrDiff (expr_of left) (expr_of right) size
unfolding shape-the_row-Expr-0 hidden-the_row-Expr-0 hidden
view_ptr_diff left right size = refl

pub view_compare_ptr : (op : Cmp) (left : CExpr) (right : CExpr) → form_of (CV.ComparePtr op left right) ≡ t.ComparePtr op (expr_of left) (expr_of right)
unfolding shape-the_row-Expr-0 hidden-the_row-Expr-0 hidden
view_compare_ptr op left right = refl

pub view_both : (left : CExpr) (right : CExpr) → form_of (CV.Both left right) ≡ t.Both (expr_of left) (expr_of right)
unfolding shape-the_row-Expr-0 hidden-the_row-Expr-0 hidden
view_both left right = refl

pub view_either : (left : CExpr) (right : CExpr) → form_of (CV.Either left right) ≡ t.Either (expr_of left) (expr_of right)
unfolding shape-the_row-Expr-0 hidden-the_row-Expr-0 hidden
view_either left right = refl

pub view_choose : (condition : CExpr) (left : CExpr) (right : CExpr) → form_of (CV.Choose condition left right) ≡ t.Choose (expr_of condition) (expr_of left) (expr_of right)
unfolding shape-the_row-Expr-0 hidden-the_row-Expr-0 hidden
view_choose condition left right = refl

pub view_then : (left : CExpr) (right : CExpr) → form_of (CV.Then left right) ≡ t.Then (expr_of left) (expr_of right)
unfolding shape-the_row-Expr-0 hidden-the_row-Expr-0 hidden
view_then left right = refl

pub view_modify : (place : CExpr) (at : Span) (kind : Scalar) (op : ModifyOp) (operand : CExpr) (common : IntKind) (post : Bool) → form_of (CV.Modify place at kind op operand common post) ≡ t.Modify (expr_of place) at kind op (expr_of operand) common post
unfolding shape-the_row-Expr-0 hidden-the_row-Expr-0 hidden
view_modify place at kind op operand common post = refl

pub view_call : (function : CExpr) (ty : List ℕ) (args : List CExpr) (used : Bool) → form_of (CV.Call function ty args used) ≡ t.Call (expr_of function) ty (exprs_of args) used
unfolding shape-the_row-Expr-0 hidden-the_row-Expr-0 hidden
view_call function ty args used = ap (λ es. t.Call (expr_of function) ty es used) (view_row args)

pub view_lib_call : (function : ℕ) (args : List CExpr) (mark : LibMark) → form_of (CV.LibCall function args mark) ≡ t.LibCall function (exprs_of args) mark
view_lib_call function args mark = ap (λ es. t.LibCall function es mark) (view_row args)

pub view_stmts : (ss : List S.Stmt) → stmts_of_row (SB.hidden-the_row-Stmt-0 ss) ≡ stmts_of ss
unfolding SB.shape-the_row-Stmt-0 SB.hidden-the_row-Stmt-0 hidden
view_stmts [] = refl
view_stmts (s ∷ ss) = ap (t.one_stmt (stmt_of s)) (view_stmts ss)

pub view_block : (objects : List (ℕ × ℕ)) (ss : List S.Stmt) → stmt_of (SV.Block objects ss) ≡ t.Block objects (stmts_of ss)
view_block objects ss = ap (t.Block objects) (view_stmts ss)

pub view_if : (c : CExpr) (a : S.Stmt) → stmt_of (SV.If c a None) ≡ t.If (expr_of c) (stmt_of a) t.NoElse
unfolding SB.shape-the_row-Stmt-1 SB.hidden-the_row-Stmt-1 hidden
view_if c a = refl

pub view_if_else : (c : CExpr) (a b : S.Stmt) → stmt_of (SV.If c a (Some b)) ≡ t.If (expr_of c) (stmt_of a) (t.Otherwise (stmt_of b))
unfolding SB.shape-the_row-Stmt-1 SB.hidden-the_row-Stmt-1 hidden
view_if_else c a b = refl

pub view_loop : (first : Bool) (c : CExpr) (step : Option CExpr) (b : S.Stmt) → stmt_of (SV.Loop first c step b) ≡ t.Loop first (expr_of c) (maybe_expr_of step) (stmt_of b)
unfolding SB.shape-the_row-Stmt-1 SB.hidden-the_row-Stmt-1 hidden
view_loop first c step b = refl

pub ruleset views = (view_load, view_store, view_copy_record, view_convert, view_truth, view_arith, view_shift_bits, view_compare_int, view_ptr_add, view_ptr_diff, view_compare_ptr, view_both, view_either, view_choose, view_then, view_modify, view_call, view_lib_call, view_block, view_if, view_if_else, view_loop)
