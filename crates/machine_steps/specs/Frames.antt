-- What the machine holds: what it is about to do, and what waits.
use Rattle.std.specs.Prelude.{ℕ, suc, zero, Bool, List, [], ◌∷◌, ◌++◌, Option}
use Rattle.tok_base.specs.declared.token.Span.{Span}
use Rattle.c_core.specs.declared.values.Value.{Value}
use Rattle.c_core.specs.declared.values.End.{End}
use Rattle.c_core.specs.declared.tree.LibMark.{LibMark}
use Rattle.c_core.specs.Tree.{Expr, Exprs, no_exprs, one_expr, MaybeExpr, NoExpr, TheExpr, Stmt, Stmts, no_stmts, one_stmt, Else, NoElse, Otherwise}
use Rattle.c_core.specs.Library.{LibraryFunction}
use Rattle.c_meaning.specs.declared.log.Flow.{Flow}
use Rattle.c_meaning.specs.World.{State}

-- what is done next: an expression is evaluated, a value is given to what waits for it, a statement begins, or what
-- waits is told how one ended
pub data Control : Type 0 where
  Eval : Expr → Control
  Give : Value → Control
  Begin : Stmt → Control
  Went : Flow → Control

-- what waits, with the tree that it is a part of
pub data Frame : Type 0 where
  -- for the value of an expression's first part
  First : Expr → Frame
  -- for that of its second part; the topmost value is that of the first
  Second : Expr → Frame
  -- for the value whose truth is the value of the whole
  AsTruth : Frame
  -- for the argument with this number; the topmost values are the arguments before it, the last one on top, and below
  -- them, in a call through a value, the called value
  Argument : Expr → (number : ℕ) → Frame
  -- for the value of an expression statement
  Done : Frame
  -- for the item of an initialiser with this number
  Item : Stmt → (number : ℕ) → Frame
  -- for the condition of an `if`
  Branch : Stmt → Frame
  -- for the condition, the body and the third clause of a loop
  Test : Stmt → Frame
  Turn : Stmt → Frame
  Step : Stmt → Frame
  -- for the end of the statement of a block with this number
  Listed : Stmt → (number : ℕ) → Frame
  -- for the value that a `return` gives
  GiveBack : Frame
  -- for the end of a function's body; the locals of the caller are those saved from `base` on
  Leave : (params : List ℕ) → (is_main used : Bool) → Span → (base : ℕ) → Frame

-- the frames and the values that wait, the topmost first, and the locals of the calls that wait, the first call's first
pub record Stacks : Type 0 where
  pub frames : List Frame
  pub values : List Value
  pub saved : List (Option ℕ)

-- what a step leads to: the machine goes on, the run is over, or a library function is called, whose value goes to what
-- waits
pub data Next : Type 0 where
  On : Control → Stacks → State → Next
  Over : End → State → Next
  Library : Option LibraryFunction → Span → LibMark → (args : List Value) → Stacks → State → Next

abbrev pub with_frame : Frame → Stacks → Stacks
with_frame f st = record st { frames = f ∷ st.frames }

abbrev pub with_value : Value → Stacks → Stacks
with_value v st = record st { values = v ∷ st.values }

-- ---- lists by number

abbrev pub expr_at : ℕ → Exprs → MaybeExpr
expr_at n no_exprs = NoExpr
expr_at zero (one_expr e es) = TheExpr e
expr_at (suc n) (one_expr e es) = expr_at n es

abbrev pub exprs_from : ℕ → Exprs → Exprs
exprs_from zero es = es
exprs_from (suc n) no_exprs = no_exprs
exprs_from (suc n) (one_expr e es) = exprs_from n es

abbrev pub stmt_at : ℕ → Stmts → Else
stmt_at n no_stmts = NoElse
stmt_at zero (one_stmt x xs) = Otherwise x
stmt_at (suc n) (one_stmt x xs) = stmt_at n xs

abbrev pub stmts_from : ℕ → Stmts → Stmts
stmts_from zero xs = xs
stmts_from (suc n) no_stmts = no_stmts
stmts_from (suc n) (one_stmt x xs) = stmts_from n xs

-- the topmost values, the topmost one last
abbrev pub topmost : ℕ → List Value → List Value
topmost zero vs = []
topmost (suc n) [] = []
topmost (suc n) (v ∷ vs) = topmost n vs ++ v ∷ []

-- and what is below them
abbrev pub below : ℕ → List Value → List Value
below zero vs = vs
below (suc n) [] = []
below (suc n) (v ∷ vs) = below n vs
