-- What tree a tree in memory is.
use Rattle.std.specs.Prelude.{List, [], ◌∷◌, map, Option, Some, None}
use Rattle.std.proofs.Common.{option_map}
use Rattle.c_core.specs.declared.tree.Expr.{Expr as CExpr}
use Rattle.c_core.specs.declared.tree.Form as C
use Rattle.c_core.specs.declared.tree.Form.{Row_of-Expr, end_of-Expr, more_of-Expr}
use Rattle.c_core.specs.declared.tree.Stmt as S
use Rattle.c_core.specs.declared.tree.Stmt.{Row_of-Stmt, end_of-Stmt, more_of-Stmt, Held-Stmt-If-2, None', Some'}
use Rattle.c_core.specs.declared.tree.Func as F
use Rattle.c_core.specs.declared.tree.Core as P
use Rattle.c_core.specs.Tree.{Expr, At, Form, Const, Text, Func, Object, Load, Store, CopyRecord, Convert, Truth, Arith, ShiftBits, CompareInt, PtrAdd, PtrDiff, ComparePtr, Both, Either, Choose, Then, Modify, Call, LibCall, Mark, Exprs, no_exprs, one_expr, MaybeExpr, NoExpr, TheExpr}
use Rattle.c_core.specs.Tree.{Stmt, Block, Do, Init, If, Loop, Break, Continue, Return, Else, NoElse, Otherwise, Stmts, no_stmts, one_stmt, Function, Program}

abbrev mutual
  pub form_of : C.Form → Form
  form_of (C.Const v) = Const v
  form_of (C.Text k) = Text k
  form_of (C.Func k) = Func k
  form_of (C.Object p) = Object p
  form_of (C.Load' p (more_of-Expr s e end_of-Expr) k) = Load (At s (form_of e)) k
  form_of (C.Store' p (more_of-Expr s e end_of-Expr) at k q (more_of-Expr t f end_of-Expr)) = Store (At s (form_of e)) at k (At t (form_of f))
  form_of (C.CopyRecord' p (more_of-Expr s e end_of-Expr) a q (more_of-Expr t f end_of-Expr) b n) = CopyRecord (At s (form_of e)) a (At t (form_of f)) b n
  form_of (C.Convert' k p (more_of-Expr s e end_of-Expr)) = Convert k (At s (form_of e))
  form_of (C.Truth' p (more_of-Expr s e end_of-Expr) negated) = Truth (At s (form_of e)) negated
  form_of (C.Arith' op p (more_of-Expr s e end_of-Expr) q (more_of-Expr t f end_of-Expr)) = Arith op (At s (form_of e)) (At t (form_of f))
  form_of (C.ShiftBits' left p (more_of-Expr s e end_of-Expr) q (more_of-Expr t f end_of-Expr)) = ShiftBits left (At s (form_of e)) (At t (form_of f))
  form_of (C.CompareInt' op p (more_of-Expr s e end_of-Expr) q (more_of-Expr t f end_of-Expr)) = CompareInt op (At s (form_of e)) (At t (form_of f))
  form_of (C.PtrAdd' p (more_of-Expr s e end_of-Expr) q (more_of-Expr t f end_of-Expr) n minus) = PtrAdd (At s (form_of e)) (At t (form_of f)) n minus
  form_of (C.PtrDiff' p (more_of-Expr s e end_of-Expr) q (more_of-Expr t f end_of-Expr) n) = PtrDiff (At s (form_of e)) (At t (form_of f)) n
  form_of (C.ComparePtr' op p (more_of-Expr s e end_of-Expr) q (more_of-Expr t f end_of-Expr)) = ComparePtr op (At s (form_of e)) (At t (form_of f))
  form_of (C.Both' p (more_of-Expr s e end_of-Expr) q (more_of-Expr t f end_of-Expr)) = Both (At s (form_of e)) (At t (form_of f))
  form_of (C.Either' p (more_of-Expr s e end_of-Expr) q (more_of-Expr t f end_of-Expr)) = Either (At s (form_of e)) (At t (form_of f))
  form_of (C.Choose' p (more_of-Expr s e end_of-Expr) q (more_of-Expr t f end_of-Expr) r (more_of-Expr u g end_of-Expr)) = Choose (At s (form_of e)) (At t (form_of f)) (At u (form_of g))
  form_of (C.Then' p (more_of-Expr s e end_of-Expr) q (more_of-Expr t f end_of-Expr)) = Then (At s (form_of e)) (At t (form_of f))
  form_of (C.Modify' p (more_of-Expr s e end_of-Expr) at k op q (more_of-Expr t f end_of-Expr) common post) = Modify (At s (form_of e)) at k op (At t (form_of f)) common post
  form_of (C.Call' p (more_of-Expr s e end_of-Expr) ty n es used) = Call (At s (form_of e)) ty (exprs_of_row es) used
  form_of (C.LibCall' k n es mark) = LibCall k (exprs_of_row es) mark
  form_of (C.Mark k) = Mark k

  pub exprs_of_row : {m : _} → Row_of-Expr m → Exprs
  exprs_of_row end_of-Expr = no_exprs
  exprs_of_row (more_of-Expr s e es) = one_expr (At s (form_of e)) (exprs_of_row es)

abbrev pub expr_of : CExpr → Expr
expr_of e = At e.span (form_of e.form)

-- of a list of trees
abbrev pub exprs_of : List CExpr → Exprs
exprs_of [] = no_exprs
exprs_of (e ∷ es) = one_expr (expr_of e) (exprs_of es)

abbrev pub maybe_expr_of : Option CExpr → MaybeExpr
maybe_expr_of None = NoExpr
maybe_expr_of (Some e) = TheExpr (expr_of e)

abbrev mutual
  pub stmt_of : S.Stmt → Stmt
  stmt_of (S.Block' objects n ss) = Block objects (stmts_of_row ss)
  stmt_of (S.Expr e) = Do (expr_of e)
  stmt_of (S.Init x zero_first items) = Init x zero_first (exprs_of items)
  stmt_of (S.If' c p (more_of-Stmt a end_of-Stmt) b) = If (expr_of c) (stmt_of a) (else_of b)
  stmt_of (S.Loop' first c step p (more_of-Stmt b end_of-Stmt)) = Loop first (expr_of c) (maybe_expr_of step) (stmt_of b)
  stmt_of S.Break = Break
  stmt_of S.Continue = Continue
  stmt_of (S.Return e) = Return (maybe_expr_of e)

  pub else_of : Held-Stmt-If-2 → Else
  else_of None' = NoElse
  else_of (Some' p (more_of-Stmt b end_of-Stmt)) = Otherwise (stmt_of b)

  pub stmts_of_row : {m : _} → Row_of-Stmt m → Stmts
  stmts_of_row end_of-Stmt = no_stmts
  stmts_of_row (more_of-Stmt s ss) = one_stmt (stmt_of s) (stmts_of_row ss)

abbrev pub stmts_of : List S.Stmt → Stmts
stmts_of [] = no_stmts
stmts_of (s ∷ ss) = one_stmt (stmt_of s) (stmts_of ss)

abbrev pub maybe_stmt_of : Option S.Stmt → Else
maybe_stmt_of None = NoElse
maybe_stmt_of (Some s) = Otherwise (stmt_of s)

abbrev pub func_of : F.Func → Function
func_of f = record { name = f.name; ty = f.ty; params = f.params; body = option_map stmt_of f.body }

abbrev pub program_of : P.Core → Program
program_of c = record { funcs = map func_of c.funcs; fixed = c.fixed; main = c.main }
