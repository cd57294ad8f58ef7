-- The stack and the modes of Inside.antt over trees with places and numbers. The node that is open stands first, and where there
-- are two, the outer one stands before. An Item is open only from the end of its declarator on: a definition has none.
use Rattle.std.specs.Prelude.{ℕ, ◌+◌, Bool, List, Option, Some}
use Rattle.c_tree.specs.Tok.{Word}
use Rattle.c_tree.specs.Tree.{BinaryOp, AssignOp, PrefixOp}
use Rattle.c_tree.specs.Marked.{Expr, TypeName, MaybeExpr, Specs, Declarator, Init, Item, First, Stmt, External, Entry, Argument, Attribute}
use Rattle.c_tree.specs.Wf.{Env}
use Rattle.c_reader.specs.Symbol.{Tagged, Member}
use Rattle.c_reader.specs.MarkedParts.{Open, Had, Field, Enumerator, Param, BlockItem, SpecsRead, ArgumentRead, reach}

-- ---- statements and declarations

mutual
  pub data InStmt : Type 0 where
    in_block : Open → List BlockItem → InBody → InStmt  -- { is ⟨·⟩
    in_then : Open → Expr → InStmt → InStmt  -- if ( c ) ⟨·⟩
    in_else : Open → Expr → Stmt → InStmt → InStmt  -- if ( c ) a else ⟨·⟩
    in_while : Open → Expr → InStmt → InStmt  -- while ( c ) ⟨·⟩
    in_do : Open → InStmt → InStmt  -- do ⟨·⟩
    in_for : Open → First → MaybeExpr → MaybeExpr → InStmt → InStmt  -- for ( i c ; e ) ⟨·⟩

  -- where the braces of a block stand
  pub data InBody : Type 0 where
    of_definition : ℕ → Open → List External → Specs → Declarator → InBody  -- ss d ⟨·⟩; the number: the greatest depth of the externals before
    of_stmt : InStmt → InBody

pub data InDeclaration : Type 0 where
  of_external : ℕ → List External → InDeclaration  -- the number: the greatest depth of the externals before
  of_block : Open → List BlockItem → InBody → InDeclaration
  of_for : Open → InStmt → InDeclaration  -- for ( ⟨·⟩

-- the declaration, ss is , ⟨·⟩, and whether the specs make typedef names
pub record InItems : Type 0 where
  pub node : Open
  pub specs : Specs
  pub typedef : Bool
  pub items : List Item
  pub place : InDeclaration

-- the item, and ss is , d attributes
pub record ItemRead : Type 0 where
  pub node : Open
  pub before : InItems
  pub declarator : Declarator
  pub attributes : List Attribute

pub data InInit : Type 0 where
  of_item : ItemRead → InInit  -- = ⟨·⟩
  in_braces : Open → List Init → InInit → InInit  -- { is , ⟨·⟩

-- the condition of a statement
pub data Condition : Type 0 where
  of_if : Condition  -- if ( ⟨·⟩
  of_while : Condition  -- while ( ⟨·⟩
  of_do : Stmt → Condition  -- do s while ( ⟨·⟩

-- the expression of a statement
pub data Part : Type 0 where
  plain : Part  -- ⟨·⟩ ;
  returned : Part  -- return ⟨·⟩ ;
  condition : Condition → Part
  for_first : Part  -- for ( ⟨·⟩ ;
  for_condition : First → Part  -- for ( i ⟨·⟩ ;
  for_step : First → MaybeExpr → Part  -- for ( i c ; ⟨·⟩

-- ---- expressions, specs and declarators

-- an operator whose last operand is still to come
pub data Operand : Type 0 where
  of_prefix : PrefixOp → Operand
  of_sizeof : Operand
  of_cast : TypeName → Operand
  of_binary : Expr → BinaryOp → Operand
  of_assign : Expr → AssignOp → Operand
  of_comma : Expr → Operand
  of_cond : Expr → Expr → Operand  -- c ? a : ⟨·⟩

pub data Callee : Type 0 where
  of_function : Expr → Callee
  of_builtin : Callee

-- what a bracket closes, or the colon of c ? a : b
pub data Bracket : Type 0 where
  of_paren : Bracket
  of_index : Expr → Bracket
  of_args : Callee → List Expr → Bracket
  of_middle : Expr → Bracket  -- c ? ⟨·⟩

-- a type name in parentheses
pub data TypePlace : Type 0 where
  cast_type sizeof_type : TypePlace

mutual
  pub data InExpr : Type 0 where
    in_operand : Open → Operand → InExpr → InExpr
    in_bracket : Open → Bracket → InExpr → InExpr
    in_stmt : Open → Part → InStmt → InExpr
    in_init : InInit → InExpr
    in_value : Open → List ℕ → InEnum → InExpr  -- n = ⟨·⟩
    in_array : Open → Declarator → InDeclarator → InExpr  -- d [ ⟨·⟩

  pub data InDeclarator : Type 0 where
    in_pointer : Open → List Word → InDeclarator → InDeclarator  -- * qs ⟨·⟩
    in_group : Open → InDeclarator → InDeclarator  -- ( ⟨·⟩
    in_item : InItems → InDeclarator
    in_field : Open → InFields → Specs → List Declarator → InDeclarator  -- ss ds , ⟨·⟩
    in_param : Open → InParams → Specs → InDeclarator  -- ss ⟨·⟩
    in_type : Open → Open → TypePlace → InExpr → Specs → InDeclarator  -- ( ss ⟨·⟩; the type name is a node of its own

  pub data InSpecs : Type 0 where
    of_declaration : InDeclaration → InSpecs
    of_field : InFields → InSpecs
    of_param : InParams → InSpecs
    of_type : Open → TypePlace → InExpr → InSpecs  -- ( ⟨·⟩

  -- struct or union, tag, { fs ⟨·⟩, among specs
  pub data InFields : Type 0 where
    in_fields : Open → Bool → Option (List ℕ) → List Field → SpecsRead → InSpecs → InFields

  -- enum tag { es , ⟨·⟩, among specs
  pub data InEnum : Type 0 where
    in_enum : Open → Option (List ℕ) → List Enumerator → SpecsRead → InSpecs → InEnum

  -- d ( ps , ⟨·⟩
  pub data InParams : Type 0 where
    in_params : Open → Declarator → List Param → InDeclarator → InParams

pub data InAttribute : Type 0 where
  of_specs : SpecsRead → InSpecs → InAttribute
  of_read : ItemRead → InAttribute

-- ---- modes

pub data AttributeMode : Type 0 where
  attribute_word : AttributeMode  -- __attribute__
  attribute_opened : AttributeMode  -- __attribute__ (
  entries_opened : AttributeMode  -- __attribute__ ( (
  want_entry : List Entry → AttributeMode  -- es ,
  after_entry_name : List Entry → List ℕ → AttributeMode  -- es , n
  arguments_opened : List Entry → List ℕ → AttributeMode  -- es , n (
  want_argument : List Entry → List ℕ → List Argument → AttributeMode  -- es , n ( xs ,
  after_argument : ℕ → List Entry → List ℕ → List Argument → ArgumentRead → AttributeMode  -- es , n ( xs , x
  after_entry : List Entry → AttributeMode  -- es
  attribute_closing : List Entry → AttributeMode  -- es )

pub data SpecsMode : Type 0 where
  in_specs : SpecsRead → InSpecs → SpecsMode
  after_tagged : Open → Tagged → SpecsRead → InSpecs → SpecsMode  -- struct, union or enum
  after_tag : Open → Tagged → List ℕ → SpecsRead → InSpecs → SpecsMode  -- struct n, union n or enum n
  want_field : InFields → SpecsMode
  want_enumerator : InEnum → SpecsMode
  after_enumerator : Open → List ℕ → InEnum → SpecsMode
  want_param : InParams → SpecsMode

pub data DeclaratorMode : Type 0 where
  want_declarator : InDeclarator → DeclaratorMode
  after_star : Open → List Word → InDeclarator → DeclaratorMode  -- * qs
  declarator_opened : Open → InDeclarator → DeclaratorMode  -- (
  after_declarator : Had → InDeclarator → Declarator → DeclaratorMode
  array_opened : Open → Declarator → InDeclarator → DeclaratorMode  -- d [
  params_opened : Open → Declarator → InDeclarator → DeclaratorMode  -- d (

pub data ExprMode : Type 0 where
  want_expr : InExpr → ExprMode
  after_expr : Had → InExpr → Expr → ExprMode
  after_text : ℕ → InExpr → List (List ℕ) → ExprMode
  opened : Open → InExpr → ExprMode  -- (
  after_sizeof : Open → InExpr → ExprMode  -- sizeof
  sizeof_opened : Open → ℕ → InExpr → ExprMode  -- sizeof (; the number: where the parenthesis stands
  args_opened : Open → Expr → InExpr → ExprMode  -- f (
  after_builtin : Open → InExpr → ExprMode  -- __builtin_infer_alloc_token
  want_member : Open → Expr → Member → InExpr → ExprMode  -- a . or a ->

-- a statement that lacks its ;
pub data Unended : Type 0 where
  broken : Unended  -- break
  continued : Unended  -- continue
  done_while : Stmt → Expr → Unended  -- do s while ( c )

pub data StmtMode : Type 0 where
  want_stmt : InStmt → StmtMode
  after_stmt : ℕ → InStmt → Stmt → StmtMode  -- the number: its depth
  want_paren : Open → Condition → InStmt → StmtMode  -- if, while, or do s while
  after_for : Open → InStmt → StmtMode  -- for
  for_opened : Open → InStmt → StmtMode  -- for (
  want_condition : Open → First → InStmt → StmtMode  -- for ( i
  want_step : Open → First → MaybeExpr → InStmt → StmtMode  -- for ( i c ;
  want_semi : Open → Unended → InStmt → StmtMode
  after_return : Open → InStmt → StmtMode  -- return

pub data Mode : Type 0 where
  want_external : ℕ → List External → Mode  -- the number: their greatest depth
  in_attribute : Open → AttributeMode → InAttribute → Mode
  specs : SpecsMode → Mode
  declarator : DeclaratorMode → Mode
  after_attributes : ItemRead → Mode
  want_init : InInit → Mode
  after_init : ℕ → InInit → Init → Mode  -- the number: its depth
  expr : ExprMode → Mode
  stmt : StmtMode → Mode

-- ---- the node that is open around what stands there

abbrev pub around_stmt : InStmt → Open
around_stmt (in_block o is b) = o
around_stmt (in_then o c k) = o
around_stmt (in_else o c a k) = o
around_stmt (in_while o c k) = o
around_stmt (in_do o k) = o
around_stmt (in_for o i c e k) = o

abbrev pub around_init : InInit → Open
around_init (of_item r) = r.node
around_init (in_braces o is k) = o

abbrev pub around_expr : InExpr → Open
around_expr (in_operand o x k) = o
around_expr (in_bracket o b k) = o
around_expr (in_stmt o p k) = o
around_expr (in_init k) = around_init k
around_expr (in_value o x k) = o
around_expr (in_array o d k) = o

abbrev pub around_declarator : InDeclarator → Open
around_declarator (in_pointer o qs k) = o
around_declarator (in_group o k) = o
around_declarator (in_item q) = q.node
around_declarator (in_field o f ss ds) = o
around_declarator (in_param o p ss) = o
around_declarator (in_type o t p k ss) = t

abbrev pub around_fields : InFields → Open
around_fields (in_fields o is_union tag fs ss k) = o

abbrev pub around_enum : InEnum → Open
around_enum (in_enum o tag es ss k) = o

abbrev pub around_params : InParams → Open
around_params (in_params o d ps k) = o

-- how many nodes are open where a declaration stands
abbrev pub declaration_level : InDeclaration → ℕ
declaration_level (of_external deep done) = 0
declaration_level (of_block o is b) = o.level
declaration_level (of_for o k) = o.level

-- and where a declaration, a field, a parameter or a type name stands
abbrev pub specs_level : InSpecs → ℕ
specs_level (of_declaration q) = declaration_level q
specs_level (of_field f) = (around_fields f).level
specs_level (of_param p) = (around_params p).level
specs_level (of_type o p k) = o.level

-- ---- the height of what is open: no unit that a mode leads to is less deep

abbrev pub specs_height : SpecsMode → ℕ
specs_height (in_specs ss k) = reach ss.node
specs_height (after_tagged o g ss k) = reach o
specs_height (after_tag o g x ss k) = reach o
specs_height (want_field f) = reach (around_fields f)
specs_height (want_enumerator k) = reach (around_enum k)
specs_height (after_enumerator o x k) = reach o
specs_height (want_param p) = reach (around_params p)

abbrev pub declarator_height : DeclaratorMode → ℕ
declarator_height (want_declarator k) = reach (around_declarator k)
declarator_height (after_star o qs k) = reach o
declarator_height (declarator_opened o k) = reach o
declarator_height (after_declarator h k d) = (around_declarator k).level + h.deep
declarator_height (array_opened o d k) = reach o
declarator_height (params_opened o d k) = reach o

abbrev pub expr_height : ExprMode → ℕ
expr_height (want_expr k) = reach (around_expr k)
expr_height (after_expr h k a) = (around_expr k).level + h.deep
expr_height (after_text from k xs) = (around_expr k).level + 1
expr_height (opened o k) = reach o
expr_height (after_sizeof o k) = reach o
expr_height (sizeof_opened o p_from k) = reach o
expr_height (args_opened o f k) = reach o
expr_height (after_builtin o k) = reach o
expr_height (want_member o a m k) = reach o

abbrev pub stmt_height : StmtMode → ℕ
stmt_height (want_stmt k) = reach (around_stmt k)
stmt_height (after_stmt d k a) = (around_stmt k).level + d
stmt_height (want_paren o c k) = reach o
stmt_height (after_for o k) = reach o
stmt_height (for_opened o k) = reach o
stmt_height (want_condition o i k) = reach o
stmt_height (want_step o i c k) = reach o
stmt_height (want_semi o a k) = reach o
stmt_height (after_return o k) = reach o

abbrev pub height : Mode → ℕ
height (want_external deep done) = deep
height (in_attribute o m a) = reach o
height (specs m) = specs_height m
height (declarator m) = declarator_height m
height (after_attributes r) = reach r.node
height (want_init k) = reach (around_init k)
height (after_init d k i) = (around_init k).level + d
height (expr m) = expr_height m
height (stmt m) = stmt_height m

-- ---- a state

-- the number of the next node, the typedef names so far, and where the reader is
pub record Next : Type 0 where
  pub id : ℕ
  pub env : Env
  pub mode : Mode

abbrev pub go_on : ℕ → Env → Mode → Option Next
go_on n env m = Some (record { id = n; env = env; mode = m })
