-- The tree of a unit with a place and a number at each node, as the program's tree is seen.
-- Without them it is the tree of Tree.antt, form by form.
use Rattle.std.specs.Prelude.{ℕ, List, Bool, Option}
use Rattle.c_tree.specs.Tok.{Word}
use Rattle.c_tree.specs.Tree.{BinaryOp, AssignOp, PrefixOp, Step}
use Rattle.c_tree.specs.declared.operator.At.{At}

-- ---- attributes

pub data Argument : Type 0 where
  NumberArgument : At → List ℕ → Argument
  TextArgument : At → List (List ℕ) → Argument

pub record Entry : Type 0 where
  pub name : List ℕ
  pub arguments : Option (List Argument)

pub record Attribute : Type 0 where
  pub at : At
  pub entries : List Entry

-- ---- expressions (ISO/IEC 9899:2018, 6.5), specifiers (6.7) and declarators (6.7.6)

mutual
  pub data Expr : Type 0 where
    Comma : At → Expr → Expr → Expr
    Assign : At → Expr → AssignOp → Expr → Expr
    Cond : At → Expr → Expr → Expr → Expr
    Binary : At → Expr → BinaryOp → Expr → Expr
    Cast : At → TypeName → Expr → Expr
    Prefix : At → PrefixOp → Expr → Expr
    SizeofExpr : At → Expr → Expr
    SizeofType : At → TypeName → Expr
    Index : At → Expr → Expr → Expr
    Call : At → Expr → Exprs → Expr
    Dot : At → Expr → List ℕ → Expr
    Arrow : At → Expr → List ℕ → Expr
    Post : At → Expr → Step → Expr
    Name : At → List ℕ → Expr
    Number : At → List ℕ → Expr
    Char : At → List ℕ → Expr
    Text : At → List (List ℕ) → Expr
    Paren : At → Expr → Expr
    Builtin : At → Exprs → Expr

  pub data TypeName : Type 0 where
    type_name : At → Specs → MaybeDeclarator → TypeName

  pub data Exprs : Type 0 where
    no_exprs : Exprs
    expr : Expr → Exprs → Exprs

  pub data MaybeExpr : Type 0 where
    no_expr : MaybeExpr
    some_expr : Expr → MaybeExpr

  pub data Specs : Type 0 where
    no_specs : Specs
    Keyword : Word → Specs → Specs
    Typedef : List ℕ → Specs → Specs
    attribute : Attribute → Specs → Specs
    Record : At → Bool → Option (List ℕ) → MaybeFields → Specs → Specs
    Enum : At → Option (List ℕ) → MaybeEnumerators → Specs → Specs

  pub data MaybeFields : Type 0 where
    no_body : MaybeFields
    body : Fields → MaybeFields

  pub data Fields : Type 0 where
    no_fields : Fields
    Field : At → Specs → Declarators → Fields → Fields

  pub data Declarators : Type 0 where
    no_declarators : Declarators
    declarator : Declarator → Declarators → Declarators

  pub data MaybeEnumerators : Type 0 where
    no_list : MaybeEnumerators
    list : Enumerators → Bool → MaybeEnumerators

  pub data Enumerators : Type 0 where
    no_enumerators : Enumerators
    Enumerator : At → List ℕ → MaybeExpr → Enumerators → Enumerators

  pub data MaybeDeclarator : Type 0 where
    no_declarator : MaybeDeclarator
    some_declarator : Declarator → MaybeDeclarator

  pub data Declarator : Type 0 where
    PointerTo : At → List Word → Declarator → Declarator
    Declared : At → Option (List ℕ) → Declarator
    Group : At → Declarator → Declarator
    ArrayOf : At → Declarator → MaybeExpr → Declarator
    FunctionOf : At → Declarator → Params → Declarator

  pub data Params : Type 0 where
    no_params : Params
    Param : At → Specs → MaybeDeclarator → Params → Params

-- ---- declarations (6.7)

mutual
  pub data Init : Type 0 where
    Plain : Expr → Init
    Braces : At → Inits → Bool → Init

  pub data Inits : Type 0 where
    no_inits : Inits
    init : Init → Inits → Inits

pub data MaybeInit : Type 0 where
  no_init : MaybeInit
  some_init : Init → MaybeInit

pub record Item : Type 0 where
  pub at : At
  pub declarator : Declarator
  pub attributes : List Attribute
  pub init : MaybeInit

pub record Declaration : Type 0 where
  pub at : At
  pub specs : Specs
  pub items : List Item

pub data First : Type 0 where
  FirstDeclaration : Declaration → First
  FirstExpr : MaybeExpr → First

-- ---- statements (6.8)

mutual
  pub data Stmt : Type 0 where
    Block : At → BlockItems → Stmt
    ExprStmt : At → MaybeExpr → Stmt
    If : At → Expr → Stmt → Stmt
    IfElse : At → Expr → Stmt → Stmt → Stmt
    While : At → Expr → Stmt → Stmt
    Do : At → Stmt → Expr → Stmt
    For : At → First → MaybeExpr → MaybeExpr → Stmt → Stmt
    Break : At → Stmt
    Continue : At → Stmt
    Return : At → MaybeExpr → Stmt

  pub data BlockItems : Type 0 where
    no_items : BlockItems
    declared : Declaration → BlockItems → BlockItems
    statement : Stmt → BlockItems → BlockItems

-- ---- the unit (6.9)

-- a definition has its own place, and its body has one
pub data External : Type 0 where
  Declares : Declaration → External
  Definition : At → Specs → Declarator → At → BlockItems → External
