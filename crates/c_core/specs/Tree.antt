-- The core tree as plain data.
use Rattle.std.specs.Prelude.{ℕ, Bool, List, Option}
use Rattle.tok_base.specs.declared.token.Span.{Span}
use Rattle.num_ops.specs.declared.kinds.IntKind.{IntKind}
use Rattle.num_ops.specs.declared.arithmetic.Op.{Op}
use Rattle.num_ops.specs.declared.shifts.Cmp.{Cmp}
use Rattle.c_core.specs.declared.values.Value.{Value}
use Rattle.c_core.specs.declared.values.Scalar.{Scalar}
use Rattle.c_core.specs.declared.tree.Place.{Place}
use Rattle.c_core.specs.declared.tree.LibMark.{LibMark}
use Rattle.c_core.specs.declared.tree.ModifyOp.{ModifyOp}
use Rattle.c_core.specs.declared.tree.FixedObject.{FixedObject}

-- an expression: the span of the C expression that it is for, and its form
mutual
  pub data Expr : Type 0 where
    At : (span : Span) → Form → Expr

  pub data Form : Type 0 where
    Const : Value → Form
    Text : (literal : ℕ) → Form
    Func : (function : ℕ) → Form
    Object : Place → Form
    Load : (place : Expr) → Scalar → Form
    Store : (place : Expr) → (at : Span) → Scalar → (value : Expr) → Form
    CopyRecord : (to : Expr) → (to_at : Span) → (from : Expr) → (from_at : Span) → (size : ℕ) → Form
    Convert : IntKind → Expr → Form
    Truth : Expr → (negated : Bool) → Form
    Arith : Op → Expr → Expr → Form
    ShiftBits : (left : Bool) → Expr → Expr → Form
    CompareInt : Cmp → Expr → Expr → Form
    PtrAdd : (pointer index : Expr) → (size : ℕ) → (minus : Bool) → Form
    PtrDiff : Expr → Expr → (size : ℕ) → Form
    ComparePtr : Cmp → Expr → Expr → Form
    Both : Expr → Expr → Form
    Either : Expr → Expr → Form
    Choose : Expr → Expr → Expr → Form
    Then : Expr → Expr → Form
    Modify : (place : Expr) → (at : Span) → Scalar → ModifyOp → (operand : Expr) → (common : IntKind) → (post : Bool) → Form
    Call : (function : Expr) → (type : List ℕ) → (args : Exprs) → (used : Bool) → Form
    LibCall : (function : ℕ) → (args : Exprs) → LibMark → Form
    Mark : (number : ℕ) → Form

  pub data Exprs : Type 0 where
    no_exprs : Exprs
    one_expr : Expr → Exprs → Exprs

-- no expression, or one
pub data MaybeExpr : Type 0 where
  NoExpr : MaybeExpr
  TheExpr : Expr → MaybeExpr

mutual
  pub data Stmt : Type 0 where
    Block : (objects : List (ℕ × ℕ)) → Stmts → Stmt
    Do : Expr → Stmt
    Init : (local : ℕ) → (zero_first : Bool) → (items : Exprs) → Stmt
    If : Expr → Stmt → Else → Stmt
    Loop : (test_first : Bool) → (condition : Expr) → (step : MaybeExpr) → (body : Stmt) → Stmt
    Break : Stmt
    Continue : Stmt
    Return : MaybeExpr → Stmt

  pub data Else : Type 0 where
    NoElse : Else
    Otherwise : Stmt → Else

  pub data Stmts : Type 0 where
    no_stmts : Stmts
    one_stmt : Stmt → Stmts → Stmts

-- a function: its name, its type's spelling, the sizes of what the type takes, whether or not it has a body, and the body.
-- In a function with a body they are the sizes of its parameters, the first locals
pub record Function : Type 0 where
  pub name : List ℕ
  pub ty : List ℕ
  pub params : List ℕ
  pub body : Option Stmt

pub record Program : Type 0 where
  pub funcs : List Function
  pub fixed : List FixedObject
  pub main : Option ℕ

-- the span of an expression
abbrev pub span_of : Expr → Span
span_of (At span form) = span
