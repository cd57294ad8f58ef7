-- The core of a program whose allocation sites are tagged: each call of a site hands its token over, and each builtin is
-- its token.
use Rattle.std.specs.Prelude.{ℕ, pos, Bool, true, false, List, ◌++◌, map}
use Rattle.std.specs.Option.{option_map}
use Rattle.tok_base.specs.declared.token.Span.{Span}
use Rattle.num_ops.specs.declared.kinds.IntKind.TheVariants as k
use Rattle.num_ops.specs.Conversions.{converted}
use Rattle.c_core.specs.declared.values.Value.TheVariants as value
use Rattle.c_core.specs.declared.tree.LibMark.{LibMark}
use Rattle.c_core.specs.declared.tree.LibMark.TheVariants as mark
use Rattle.c_core.specs.Tree as c
use Rattle.c_core.specs.Tree.{Expr, At, Form, Exprs, no_exprs, one_expr, MaybeExpr, NoExpr, TheExpr, Stmt, Stmts, no_stmts, one_stmt, Else, NoElse, Otherwise}

-- the token of each site and of each builtin, and whether a site's token is handed over as an argument
pub record Tags : Type 0 where
  pub site : ℕ → ℕ
  pub mark : ℕ → ℕ
  pub is_argument : Bool

-- a token is an `unsigned long`
abbrev pub token : ℕ → Form
token t = c.Const (value.Int (record { kind = k.ULong; value = converted k.ULong (pos t) }))

abbrev pub and_last : Exprs → Expr → Exprs
and_last no_exprs e = one_expr e no_exprs
and_last (one_expr a es) e = one_expr a (and_last es e)

-- a call of a library function for a token: of the entry point that takes it behind the other arguments, or of the
-- token's own entry point
abbrev pub entered : Bool → Span → (library : ℕ) → Exprs → (token : ℕ) → Form
entered true span l es t = c.LibCall l (and_last es (At span (token t))) mark.Given
entered false span l es t = c.LibCall l es (mark.Fixed t)

abbrev pub called : Tags → Span → (library : ℕ) → Exprs → LibMark → Form
called tags span l es (mark.Site i) = entered tags.is_argument span l es (tags.site i)
called tags span l es mark.Untagged = c.LibCall l es mark.Untagged
called tags span l es mark.Given = c.LibCall l es mark.Given
called tags span l es (mark.Fixed t) = c.LibCall l es (mark.Fixed t)

module _ (tags : Tags) where
  abbrev mutual
    pub retag : Expr → Expr
    retag (At span form) = At span (retag_form span form)

    pub retag_form : Span → Form → Form
    retag_form s (c.Const v) = c.Const v
    retag_form s (c.Text i) = c.Text i
    retag_form s (c.Func f) = c.Func f
    retag_form s (c.Object p) = c.Object p
    retag_form s (c.Load p kind) = c.Load (retag p) kind
    retag_form s (c.Store p at kind e) = c.Store (retag p) at kind (retag e)
    retag_form s (c.CopyRecord p a q b n) = c.CopyRecord (retag p) a (retag q) b n
    retag_form s (c.Convert kind e) = c.Convert kind (retag e)
    retag_form s (c.Truth e negated) = c.Truth (retag e) negated
    retag_form s (c.Arith op a b) = c.Arith op (retag a) (retag b)
    retag_form s (c.ShiftBits left a b) = c.ShiftBits left (retag a) (retag b)
    retag_form s (c.CompareInt op a b) = c.CompareInt op (retag a) (retag b)
    retag_form s (c.PtrAdd p i size minus) = c.PtrAdd (retag p) (retag i) size minus
    retag_form s (c.PtrDiff p q size) = c.PtrDiff (retag p) (retag q) size
    retag_form s (c.ComparePtr op p q) = c.ComparePtr op (retag p) (retag q)
    retag_form s (c.Both a b) = c.Both (retag a) (retag b)
    retag_form s (c.Either a b) = c.Either (retag a) (retag b)
    retag_form s (c.Choose x a b) = c.Choose (retag x) (retag a) (retag b)
    retag_form s (c.Then a b) = c.Then (retag a) (retag b)
    retag_form s (c.Modify p at kind op e common post) = c.Modify (retag p) at kind op (retag e) common post
    retag_form s (c.Call f type es used) = c.Call (retag f) type (retag_all es) used
    retag_form s (c.LibCall l es m) = called tags s l (retag_all es) m
    retag_form s (c.Mark i) = token (tags.mark i)

    pub retag_all : Exprs → Exprs
    retag_all no_exprs = no_exprs
    retag_all (one_expr e es) = one_expr (retag e) (retag_all es)

  abbrev pub retag_maybe : MaybeExpr → MaybeExpr
  retag_maybe NoExpr = NoExpr
  retag_maybe (TheExpr e) = TheExpr (retag e)

  abbrev mutual
    pub retag_stmt : Stmt → Stmt
    retag_stmt (c.Block objects ss) = c.Block objects (retag_stmts ss)
    retag_stmt (c.Do e) = c.Do (retag e)
    retag_stmt (c.Init x zero_first items) = c.Init x zero_first (retag_all items)
    retag_stmt (c.If e a b) = c.If (retag e) (retag_stmt a) (retag_else b)
    retag_stmt (c.Loop first e step b) = c.Loop first (retag e) (retag_maybe step) (retag_stmt b)
    retag_stmt c.Break = c.Break
    retag_stmt c.Continue = c.Continue
    retag_stmt (c.Return e) = c.Return (retag_maybe e)

    pub retag_else : Else → Else
    retag_else NoElse = NoElse
    retag_else (Otherwise b) = Otherwise (retag_stmt b)

    pub retag_stmts : Stmts → Stmts
    retag_stmts no_stmts = no_stmts
    retag_stmts (one_stmt s ss) = one_stmt (retag_stmt s) (retag_stmts ss)

  abbrev pub retag_function : c.Function → c.Function
  retag_function f = record f { body = option_map retag_stmt f.body }

  -- the entry points stand at the end
  abbrev pub retagged : (entries : List c.Function) → c.Program → c.Program
  retagged entries p = record p { funcs = map retag_function p.funcs ++ entries }
