-- Programs, and ends, but for their places in the text.
use Rattle.std.specs.Prelude.{◌≡◌, ℕ, List, map}
use Rattle.std.specs.Option.{option_map}
use Rattle.c_core.specs.declared.values.End.{End}
use Rattle.c_core.specs.declared.values.End.TheVariants.{Exit, Trap, Spent, StackFull, OutputFull}
use Rattle.c_core.specs.Tree as c
use Rattle.c_core.specs.Tree.{Expr, At, Form, Exprs, no_exprs, one_expr, MaybeExpr, NoExpr, TheExpr, Stmt, Stmts, no_stmts, one_stmt, Else, NoElse, Otherwise}
use Rattle.c_meaning.specs.declared.log.LogEntry.{LogEntry}
use Rattle.c_meaning.specs.Meaning.{Tokens, nowhere}
use Rattle.c_meaning.specs.Log.{RunOf}

-- an end without the place of its trap
abbrev pub without_place : End → End
without_place (Exit code) = Exit code
without_place (Trap reason span) = Trap reason nowhere
without_place Spent = Spent
without_place StackFull = StackFull
without_place OutputFull = OutputFull

-- two ends that are equal but for the place of a trap
abbrev pub SameEnd : End → End → Type 0
SameEnd a b = without_place a ≡ without_place b

abbrev mutual
  pub unplaced : Expr → Expr
  unplaced (At span form) = At nowhere (unplaced_form form)

  pub unplaced_form : Form → Form
  unplaced_form (c.Const v) = c.Const v
  unplaced_form (c.Text i) = c.Text i
  unplaced_form (c.Func f) = c.Func f
  unplaced_form (c.Object p) = c.Object p
  unplaced_form (c.Load p kind) = c.Load (unplaced p) kind
  unplaced_form (c.Store p at kind e) = c.Store (unplaced p) nowhere kind (unplaced e)
  unplaced_form (c.CopyRecord p a q b n) = c.CopyRecord (unplaced p) nowhere (unplaced q) nowhere n
  unplaced_form (c.Convert kind e) = c.Convert kind (unplaced e)
  unplaced_form (c.Truth e negated) = c.Truth (unplaced e) negated
  unplaced_form (c.Arith op a b) = c.Arith op (unplaced a) (unplaced b)
  unplaced_form (c.ShiftBits left a b) = c.ShiftBits left (unplaced a) (unplaced b)
  unplaced_form (c.CompareInt op a b) = c.CompareInt op (unplaced a) (unplaced b)
  unplaced_form (c.PtrAdd p i size minus) = c.PtrAdd (unplaced p) (unplaced i) size minus
  unplaced_form (c.PtrDiff p q size) = c.PtrDiff (unplaced p) (unplaced q) size
  unplaced_form (c.ComparePtr op p q) = c.ComparePtr op (unplaced p) (unplaced q)
  unplaced_form (c.Both a b) = c.Both (unplaced a) (unplaced b)
  unplaced_form (c.Either a b) = c.Either (unplaced a) (unplaced b)
  unplaced_form (c.Choose x a b) = c.Choose (unplaced x) (unplaced a) (unplaced b)
  unplaced_form (c.Then a b) = c.Then (unplaced a) (unplaced b)
  unplaced_form (c.Modify p at kind op e common post) = c.Modify (unplaced p) nowhere kind op (unplaced e) common post
  unplaced_form (c.Call f type es used) = c.Call (unplaced f) type (unplaced_all es) used
  unplaced_form (c.LibCall l es m) = c.LibCall l (unplaced_all es) m
  unplaced_form (c.Mark i) = c.Mark i

  pub unplaced_all : Exprs → Exprs
  unplaced_all no_exprs = no_exprs
  unplaced_all (one_expr e es) = one_expr (unplaced e) (unplaced_all es)

abbrev pub unplaced_maybe : MaybeExpr → MaybeExpr
unplaced_maybe NoExpr = NoExpr
unplaced_maybe (TheExpr e) = TheExpr (unplaced e)

abbrev mutual
  pub unplaced_stmt : Stmt → Stmt
  unplaced_stmt (c.Block objects ss) = c.Block objects (unplaced_stmts ss)
  unplaced_stmt (c.Do e) = c.Do (unplaced e)
  unplaced_stmt (c.Init x zero_first items) = c.Init x zero_first (unplaced_all items)
  unplaced_stmt (c.If e a b) = c.If (unplaced e) (unplaced_stmt a) (unplaced_else b)
  unplaced_stmt (c.Loop first e step b) = c.Loop first (unplaced e) (unplaced_maybe step) (unplaced_stmt b)
  unplaced_stmt c.Break = c.Break
  unplaced_stmt c.Continue = c.Continue
  unplaced_stmt (c.Return e) = c.Return (unplaced_maybe e)

  pub unplaced_else : Else → Else
  unplaced_else NoElse = NoElse
  unplaced_else (Otherwise b) = Otherwise (unplaced_stmt b)

  pub unplaced_stmts : Stmts → Stmts
  unplaced_stmts no_stmts = no_stmts
  unplaced_stmts (one_stmt s ss) = one_stmt (unplaced_stmt s) (unplaced_stmts ss)

abbrev pub unplaced_function : c.Function → c.Function
unplaced_function f = record f { body = option_map unplaced_stmt f.body }

-- a program with no places in the text
abbrev pub unplaced_program : c.Program → c.Program
unplaced_program p = record p { funcs = map unplaced_function p.funcs }

-- programs that are equal but for places in the text have runs that are: the same output and log, and ends that are
-- equal but for the place of a trap
abbrev pub PlacesChangeNothing : Type 0
PlacesChangeNothing =
    (p p' : c.Program) → unplaced_program p ≡ unplaced_program p'
    → (tok : Tokens) (input : List ℕ) (steps count size : ℕ) (output : List ℕ) (end : End) (log : List LogEntry)
    → RunOf p tok input steps count size output end log
    → (end' : End) × SameEnd end' end × RunOf p' tok input steps count size output end' log
