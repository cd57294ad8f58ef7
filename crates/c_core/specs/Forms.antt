-- Each form in memory is seen as the form of the plain tree with the same name and parts.
use Rattle.std.specs.Prelude.{◌≡◌, ℕ, Bool, List, Option, Some, None}
use Rattle.tok_base.specs.declared.token.Span.{Span}
use Rattle.num_ops.specs.declared.kinds.IntKind.{IntKind}
use Rattle.num_ops.specs.declared.arithmetic.Op.{Op}
use Rattle.num_ops.specs.declared.shifts.Cmp.{Cmp}
use Rattle.c_core.specs.declared.values.Scalar.{Scalar}
use Rattle.c_core.specs.declared.tree.LibMark.{LibMark}
use Rattle.c_core.specs.declared.tree.ModifyOp.{ModifyOp}
use Rattle.c_core.specs.declared.tree.Expr.{Expr as CExpr}
use Rattle.c_core.specs.declared.tree.Form.TheVariants as form
use Rattle.c_core.specs.declared.tree.Stmt as S
use Rattle.c_core.specs.declared.tree.Stmt.TheVariants as stmt
use Rattle.c_core.specs.Tree as t
use Rattle.c_core.specs.View.{form_of, expr_of, exprs_of, maybe_expr_of, stmt_of, stmts_of}

-- the forms of expressions that have parts; every other form is seen as itself by the definition
pub record ExpressionsAreSeen : Type 0 where
  pub load : (place : CExpr) (kind : Scalar) → form_of (form.Load place kind) ≡ t.Load (expr_of place) kind
  pub store : (place : CExpr) (at : Span) (kind : Scalar) (value : CExpr) → form_of (form.Store place at kind value) ≡ t.Store (expr_of place) at kind (expr_of value)
  pub copy_record : (to : CExpr) (to_at : Span) (from : CExpr) (from_at : Span) (size : ℕ) → form_of (form.CopyRecord to to_at from from_at size) ≡ t.CopyRecord (expr_of to) to_at (expr_of from) from_at size
  pub convert : (kind : IntKind) (value : CExpr) → form_of (form.Convert kind value) ≡ t.Convert kind (expr_of value)
  pub truth : (value : CExpr) (negated : Bool) → form_of (form.Truth value negated) ≡ t.Truth (expr_of value) negated
  pub arith : (op : Op) (left right : CExpr) → form_of (form.Arith op left right) ≡ t.Arith op (expr_of left) (expr_of right)
  pub shift_bits : (to_left : Bool) (left right : CExpr) → form_of (form.ShiftBits to_left left right) ≡ t.ShiftBits to_left (expr_of left) (expr_of right)
  pub compare_int : (op : Cmp) (left right : CExpr) → form_of (form.CompareInt op left right) ≡ t.CompareInt op (expr_of left) (expr_of right)
  pub ptr_add : (pointer index : CExpr) (size : ℕ) (minus : Bool) → form_of (form.PtrAdd pointer index size minus) ≡ t.PtrAdd (expr_of pointer) (expr_of index) size minus
  pub ptr_diff : (left right : CExpr) (size : ℕ) → form_of (form.PtrDiff left right size) ≡ t.PtrDiff (expr_of left) (expr_of right) size
  pub compare_ptr : (op : Cmp) (left right : CExpr) → form_of (form.ComparePtr op left right) ≡ t.ComparePtr op (expr_of left) (expr_of right)
  pub both : (left right : CExpr) → form_of (form.Both left right) ≡ t.Both (expr_of left) (expr_of right)
  pub either : (left right : CExpr) → form_of (form.Either left right) ≡ t.Either (expr_of left) (expr_of right)
  pub choose : (condition left right : CExpr) → form_of (form.Choose condition left right) ≡ t.Choose (expr_of condition) (expr_of left) (expr_of right)
  pub then : (left right : CExpr) → form_of (form.Then left right) ≡ t.Then (expr_of left) (expr_of right)
  pub modify : (place : CExpr) (at : Span) (kind : Scalar) (op : ModifyOp) (operand : CExpr) (common : IntKind) (post : Bool) → form_of (form.Modify place at kind op operand common post) ≡ t.Modify (expr_of place) at kind op (expr_of operand) common post
  pub call : (function : CExpr) (ty : List ℕ) (args : List CExpr) (used : Bool) → form_of (form.Call function ty args used) ≡ t.Call (expr_of function) ty (exprs_of args) used
  pub lib_call : (function : ℕ) (args : List CExpr) (mark : LibMark) → form_of (form.LibCall function args mark) ≡ t.LibCall function (exprs_of args) mark

-- the statements that have statements as parts
pub record StatementsAreSeen : Type 0 where
  pub block : (objects : List (ℕ × ℕ)) (statements : List S.Stmt) → stmt_of (stmt.Block objects statements) ≡ t.Block objects (stmts_of statements)
  pub choice : (condition : CExpr) (yes : S.Stmt) → stmt_of (stmt.If condition yes None) ≡ t.If (expr_of condition) (stmt_of yes) t.NoElse
  pub choice_else : (condition : CExpr) (yes no : S.Stmt) → stmt_of (stmt.If condition yes (Some no)) ≡ t.If (expr_of condition) (stmt_of yes) (t.Otherwise (stmt_of no))
  pub loop : (first : Bool) (condition : CExpr) (step : Option CExpr) (body : S.Stmt) → stmt_of (stmt.Loop first condition step body) ≡ t.Loop first (expr_of condition) (maybe_expr_of step) (stmt_of body)
