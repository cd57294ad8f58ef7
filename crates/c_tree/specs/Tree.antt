-- The tree of a unit, without spans and numbers.
use Rattle.std.specs.Prelude.{ℕ, List, Bool, Option}
use Rattle.c_tree.specs.Tok.{Word}

pub data BinaryOp : Type 0 where
  Or And BitOr BitXor BitAnd Eq Ne Lt Gt Le Ge Shl Shr Add Sub Mul Div Rem : BinaryOp

pub data AssignOp : Type 0 where
  Set MulSet DivSet RemSet AddSet SubSet ShlSet ShrSet AndSet XorSet OrSet : AssignOp

pub data PrefixOp : Type 0 where
  Increment Decrement Address Deref Positive Negative Complement Not : PrefixOp

pub data Step : Type 0 where
  PostIncrement PostDecrement : Step

pub data Argument : Type 0 where
  NumberArgument : List ℕ → Argument
  TextArgument : List (List ℕ) → Argument

pub record Entry : Type 0 where
  pub name : List ℕ
  pub arguments : Option (List Argument)

mutual
  pub data Expr : Type 0 where
    Comma : Expr → Expr → Expr
    Assign : Expr → AssignOp → Expr → Expr
    Cond : Expr → Expr → Expr → Expr
    Binary : Expr → BinaryOp → Expr → Expr
    Cast : Specs → MaybeDeclarator → Expr → Expr
    Prefix : PrefixOp → Expr → Expr
    SizeofExpr : Expr → Expr
    SizeofType : Specs → MaybeDeclarator → Expr
    Index : Expr → Expr → Expr
    Call : Expr → Exprs → Expr
    Dot : Expr → List ℕ → Expr
    Arrow : Expr → List ℕ → Expr
    Post : Expr → Step → Expr
    Name : List ℕ → Expr
    Number : List ℕ → Expr
    Char : List ℕ → Expr
    Text : List (List ℕ) → Expr
    Paren : Expr → Expr
    Builtin : Exprs → Expr

  pub data Exprs : Type 0 where
    no_exprs : Exprs
    expr : Expr → Exprs → Exprs

  pub data MaybeExpr : Type 0 where
    no_expr : MaybeExpr
    some_expr : Expr → MaybeExpr

  pub data Specs : Type 0 where
    no_specs : Specs
    Keyword : Word → Specs → Specs
    Typedef : List ℕ → Specs → Specs
    Attribute : List Entry → Specs → Specs
    Record : Bool → Option (List ℕ) → MaybeFields → Specs → Specs
    Enum : Option (List ℕ) → MaybeEnumerators → Specs → Specs

  pub data MaybeFields : Type 0 where
    no_body : MaybeFields
    body : Fields → MaybeFields

  pub data Fields : Type 0 where
    no_fields : Fields
    Field : Specs → Declarators → Fields → Fields

  pub data Declarators : Type 0 where
    no_declarators : Declarators
    declarator : Declarator → Declarators → Declarators

  pub data MaybeEnumerators : Type 0 where
    no_list : MaybeEnumerators
    list : Enumerators → Bool → MaybeEnumerators

  pub data Enumerators : Type 0 where
    no_enumerators : Enumerators
    Enumerator : List ℕ → MaybeExpr → Enumerators → Enumerators

  pub data MaybeDeclarator : Type 0 where
    no_declarator : MaybeDeclarator
    some_declarator : Declarator → MaybeDeclarator

  pub data Declarator : Type 0 where
    PointerTo : List Word → Declarator → Declarator
    Declared : Option (List ℕ) → Declarator
    Group : Declarator → Declarator
    ArrayOf : Declarator → MaybeExpr → Declarator
    FunctionOf : Declarator → Params → Declarator

  pub data Params : Type 0 where
    no_params : Params
    Param : Specs → MaybeDeclarator → Params → Params

mutual
  pub data Init : Type 0 where
    Plain : Expr → Init
    Braces : Inits → Bool → Init

  pub data Inits : Type 0 where
    no_inits : Inits
    init : Init → Inits → Inits

pub data MaybeInit : Type 0 where
  no_init : MaybeInit
  some_init : Init → MaybeInit

pub record Item : Type 0 where
  pub declarator : Declarator
  pub attributes : List (List Entry)
  pub init : MaybeInit

pub record Declaration : Type 0 where
  pub specs : Specs
  pub items : List Item

pub data First : Type 0 where
  FirstDeclaration : Declaration → First
  FirstExpr : MaybeExpr → First

mutual
  pub data Stmt : Type 0 where
    Block : BlockItems → Stmt
    ExprStmt : MaybeExpr → Stmt
    If : Expr → Stmt → Stmt
    IfElse : Expr → Stmt → Stmt → Stmt
    While : Expr → Stmt → Stmt
    Do : Stmt → Expr → Stmt
    For : First → MaybeExpr → MaybeExpr → Stmt → Stmt
    Break : Stmt
    Continue : Stmt
    Return : MaybeExpr → Stmt

  pub data BlockItems : Type 0 where
    no_items : BlockItems
    declared : Declaration → BlockItems → BlockItems
    statement : Stmt → BlockItems → BlockItems

pub data External : Type 0 where
  Declares : Declaration → External
  Definition : Specs → Declarator → BlockItems → External
