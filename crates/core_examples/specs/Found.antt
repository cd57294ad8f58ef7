-- What a unit's core is. A row has what is wanted of a unit's text.
use Rattle.std.specs.Prelude.{ℕ, Bool, true, List, [], ◌∷◌, map, Option, Some, None}
use Rattle.std.specs.Option.{option_map}
use Rattle.tok_base.specs.declared.token.Span.{Span}
use Rattle.c_core.specs.declared.tree.FixedObject.{FixedObject}
use Rattle.c_core.specs.Tree as c
use Rattle.c_core.specs.Tree.{Expr, At, Form, Exprs, no_exprs, one_expr, MaybeExpr, NoExpr, TheExpr, Stmt, Else, NoElse, Otherwise, Stmts, no_stmts, one_stmt}
use Rattle.c_core.specs.WellFormed.{well_formed}
use Rattle.tok_base.specs.declared.token.Token.{Token}
use Rattle.c_reader.specs.Reader as reader
use Rattle.c_rules.specs.Trials.{verdict}
use Rattle.c_rules.specs.Unit.{trials}
use Rattle.rule_examples.specs.Judged.{tokens_of}
use Rattle.site_examples.specs.Found.{Kept, of_verdict, kept_of}
use Rattle.lower_rules.specs.Units.{core_of}

-- ---- a core without the places in the text

abbrev pub nowhere : Span
nowhere = record { start = 0; end = 0 }

abbrev mutual
  pub bare : Expr → Expr
  bare (At span form) = At nowhere (bare_form form)

  pub bare_form : Form → Form
  bare_form (c.Const v) = c.Const v
  bare_form (c.Text n) = c.Text n
  bare_form (c.Func n) = c.Func n
  bare_form (c.Object p) = c.Object p
  bare_form (c.Load p s) = c.Load (bare p) s
  bare_form (c.Store p at s e) = c.Store (bare p) nowhere s (bare e)
  bare_form (c.CopyRecord p p_at q q_at size) = c.CopyRecord (bare p) nowhere (bare q) nowhere size
  bare_form (c.Convert kind e) = c.Convert kind (bare e)
  bare_form (c.Truth e negated) = c.Truth (bare e) negated
  bare_form (c.Arith o a b) = c.Arith o (bare a) (bare b)
  bare_form (c.ShiftBits left a b) = c.ShiftBits left (bare a) (bare b)
  bare_form (c.CompareInt o a b) = c.CompareInt o (bare a) (bare b)
  bare_form (c.PtrAdd p i size minus) = c.PtrAdd (bare p) (bare i) size minus
  bare_form (c.PtrDiff p q size) = c.PtrDiff (bare p) (bare q) size
  bare_form (c.ComparePtr o p q) = c.ComparePtr o (bare p) (bare q)
  bare_form (c.Both a b) = c.Both (bare a) (bare b)
  bare_form (c.Either a b) = c.Either (bare a) (bare b)
  bare_form (c.Choose x a b) = c.Choose (bare x) (bare a) (bare b)
  bare_form (c.Then a b) = c.Then (bare a) (bare b)
  bare_form (c.Modify p at s o e common post) = c.Modify (bare p) nowhere s o (bare e) common post
  bare_form (c.Call f type es used) = c.Call (bare f) type (bare_all es) used
  bare_form (c.LibCall l es mark) = c.LibCall l (bare_all es) mark
  bare_form (c.Mark n) = c.Mark n

  pub bare_all : Exprs → Exprs
  bare_all no_exprs = no_exprs
  bare_all (one_expr e es) = one_expr (bare e) (bare_all es)

abbrev pub bare_maybe : MaybeExpr → MaybeExpr
bare_maybe NoExpr = NoExpr
bare_maybe (TheExpr e) = TheExpr (bare e)

abbrev mutual
  pub bare_stmt : Stmt → Stmt
  bare_stmt (c.Block objects ss) = c.Block objects (bare_stmts ss)
  bare_stmt (c.Do e) = c.Do (bare e)
  bare_stmt (c.Init x zeros es) = c.Init x zeros (bare_all es)
  bare_stmt (c.If e a b) = c.If (bare e) (bare_stmt a) (bare_else b)
  bare_stmt (c.Loop first e step b) = c.Loop first (bare e) (bare_maybe step) (bare_stmt b)
  bare_stmt c.Break = c.Break
  bare_stmt c.Continue = c.Continue
  bare_stmt (c.Return e) = c.Return (bare_maybe e)

  pub bare_else : Else → Else
  bare_else NoElse = NoElse
  bare_else (Otherwise b) = Otherwise (bare_stmt b)

  pub bare_stmts : Stmts → Stmts
  bare_stmts no_stmts = no_stmts
  bare_stmts (one_stmt s ss) = one_stmt (bare_stmt s) (bare_stmts ss)

abbrev pub bare_function : c.Function → c.Function
bare_function f = record f { body = option_map bare_stmt f.body }

abbrev pub bare_program : c.Program → c.Program
bare_program p = record p { funcs = map bare_function p.funcs }

-- ---- parts of a core

-- the body of the last function that has one
abbrev pub or_else : Option Stmt → Stmt → Stmt
or_else None before = before
or_else (Some s) before = s

abbrev pub last_body_behind : Stmt → List c.Function → Stmt
last_body_behind before [] = before
last_body_behind before (f ∷ fs) = last_body_behind (or_else f.body before) fs

abbrev pub last_body : List c.Function → Stmt
last_body fs = last_body_behind (c.Block [] no_stmts) fs

-- what its last statement computes
abbrev mutual
  pub value_in : Stmt → MaybeExpr
  value_in (c.Block objects ss) = last_value ss
  value_in (c.Do e) = TheExpr e
  value_in (c.Return e) = e
  value_in s = NoExpr

  pub last_value : Stmts → MaybeExpr
  last_value no_stmts = NoExpr
  last_value (one_stmt s no_stmts) = value_in s
  last_value (one_stmt s ss) = last_value ss

-- a function but for its body
pub data Declared : Type 0 where
  declared : (name type : List ℕ) → (sizes : List ℕ) → Declared

abbrev pub declared_of : c.Function → Declared
declared_of f = declared f.name f.ty f.params

-- ---- rows

pub data Row : Type 0 where
  -- a unit's core, the body of its last function that has one, and what that function's last statement computes, all without their places
  has_core : List ℕ → c.Program → Row
  has_body : List ℕ → Stmt → Row
  computes : List ℕ → Expr → Row
  -- what it computes, with the places
  computes_at : List ℕ → Expr → Row
  -- the fixed objects; the functions and the number of `main`
  has_fixed : List ℕ → List FixedObject → Row
  has_functions : List ℕ → List Declared → Option ℕ → Row
  -- whether the core is well-formed
  is_formed : List ℕ → Bool → Row
  -- the same of a unit of up to 1,000 nodes
  large_is_formed : List ℕ → Bool → Row
  -- no unit, one that breaks a rule, or one that computes nothing
  has_nothing : List ℕ → Row

abbrev pub computed : List ℕ → MaybeExpr → Row
computed text NoExpr = has_nothing text
computed text (TheExpr e) = computes text (bare e)

abbrev pub computed_at : List ℕ → MaybeExpr → Row
computed_at text NoExpr = has_nothing text
computed_at text (TheExpr e) = computes_at text e

-- a row with what is found
abbrev pub found_in : Row → c.Program → Row
found_in (has_core text p) q = has_core text (bare_program q)
found_in (has_body text s) q = has_body text (bare_stmt (last_body q.funcs))
found_in (computes text e) q = computed text (value_in (last_body q.funcs))
found_in (computes_at text e) q = computed_at text (value_in (last_body q.funcs))
found_in (has_fixed text os) q = has_fixed text q.fixed
found_in (has_functions text ds n) q = has_functions text (map declared_of q.funcs) q.main
found_in (is_formed text b) q = is_formed text (well_formed q)
found_in (large_is_formed text b) q = large_is_formed text (well_formed q)
found_in (has_nothing text) q = has_functions text (map declared_of q.funcs) q.main

abbrev pub text_of : Row → List ℕ
text_of (has_core text p) = text
text_of (has_body text s) = text
text_of (computes text e) = text
text_of (computes_at text e) = text
text_of (has_fixed text os) = text
text_of (has_functions text ds n) = text
text_of (is_formed text b) = text
text_of (large_is_formed text b) = text
text_of (has_nothing text) = text

-- a unit of so many nodes at most
abbrev pub large_of_answer : reader.Answer → Option Kept
large_of_answer (reader.unit u) = of_verdict u (verdict (trials true 1000 u))
large_of_answer (reader.wrong ts) = None
large_of_answer (reader.deep ts) = None

abbrev pub large_of_tokens : Option (List Token) → Option Kept
large_of_tokens None = None
large_of_tokens (Some ts) = large_of_answer (reader.read ts)

abbrev pub kept_for : Row → Option Kept
kept_for (large_is_formed text b) = large_of_tokens (tokens_of text)
kept_for r = kept_of (text_of r)

abbrev pub found_for : Row → Option Kept → Row
found_for r None = has_nothing (text_of r)
found_for r (Some u) = found_in r (core_of u.known u.unit)

abbrev pub found : Row → Row
found r = found_for r (kept_for r)
