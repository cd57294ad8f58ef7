-- What counts of a unit's names, in the order of the text: those that it declares, and those that it calls.
use Rattle.std.specs.Prelude.{ℕ, Bool, true, false, ◌&&◌, ◌||◌, List, [], ◌∷◌, Option, Some, None}
use Rattle.c_tree.specs.Tree as u
use Rattle.c_tree.specs.Tree.{Expr, Exprs, MaybeExpr, Specs, Fields, MaybeFields, Declarators, Declarator, MaybeDeclarator, Enumerators, MaybeEnumerators, Params, Init, Inits, MaybeInit, Item, Declaration, First, Stmt, BlockItems, External}

pub data Mention : Type 0 where
  -- a declarator outside record fields: of a function at file scope without a body, or another
  declares_function : List ℕ → Mention
  declares : List ℕ → Mention
  -- an enumerator, also one in a record
  enumerates : List ℕ → Mention
  -- a call of the name, perhaps in parentheses, outside the operands of sizeof and of the builtin
  calls : List ℕ → Mention

-- where a part stands: in an operand of sizeof or of the builtin, and in a field of a record
pub record Place : Type 0 where
  pub is_operand : Bool
  pub is_field : Bool

abbrev pub outside : Place
outside = record { is_operand = false; is_field = false }

abbrev pub operand : Place → Place
operand p = record p { is_operand = true }

abbrev pub field : Place → Place
field p = record p { is_field = true }

-- ---- the names

abbrev pub declares_as : Bool → List ℕ → Mention
declares_as true n = declares_function n
declares_as false n = declares n

abbrev pub with_declared : Bool → Bool → Option (List ℕ) → List Mention → List Mention
with_declared is_field is_function None rest = rest
with_declared true is_function (Some n) rest = rest
with_declared false is_function (Some n) rest = declares_as is_function n ∷ rest

abbrev pub with_called : Bool → Option (List ℕ) → List Mention → List Mention
with_called is_operand None rest = rest
with_called true (Some n) rest = rest
with_called false (Some n) rest = calls n ∷ rest

-- the name that the expression is, perhaps in parentheses, if it is one
abbrev pub name_of : Expr → Option (List ℕ)
name_of (u.Paren a) = name_of a
name_of (u.Name n) = Some n
name_of a = None

-- a name, perhaps in parentheses
abbrev pub is_name : Declarator → Bool
is_name (u.PointerTo qs d) = false
is_name (u.Declared n) = true
is_name (u.Group d) = is_name d
is_name (u.ArrayOf d n) = false
is_name (u.FunctionOf d ps) = false

-- it declares a function: the layer around the name is a list of parameters
abbrev pub is_function : Declarator → Bool
is_function (u.PointerTo qs d) = is_function d
is_function (u.Declared n) = false
is_function (u.Group d) = is_function d
is_function (u.ArrayOf d n) = is_function d
is_function (u.FunctionOf d ps) = is_name d || is_function d

-- ---- expressions, specs and declarators: what they mention, and then rest

abbrev mutual
  pub mentions : Place → Expr → List Mention → List Mention
  mentions p (u.Comma a b) rest = mentions p a (mentions p b rest)
  mentions p (u.Assign a op b) rest = mentions p a (mentions p b rest)
  mentions p (u.Cond c a b) rest = mentions p c (mentions p a (mentions p b rest))
  mentions p (u.Binary a op b) rest = mentions p a (mentions p b rest)
  mentions p (u.Cast ss d a) rest = specs_mentions p ss (maybe_declarator_mentions p d (mentions p a rest))
  mentions p (u.Prefix op a) rest = mentions p a rest
  mentions p (u.SizeofExpr a) rest = mentions (operand p) a rest
  mentions p (u.SizeofType ss d) rest = specs_mentions (operand p) ss (maybe_declarator_mentions (operand p) d rest)
  mentions p (u.Index a b) rest = mentions p a (mentions p b rest)
  mentions p (u.Call f xs) rest = with_called p.is_operand (name_of f) (mentions p f (exprs_mentions p xs rest))
  mentions p (u.Dot a n) rest = mentions p a rest
  mentions p (u.Arrow a n) rest = mentions p a rest
  mentions p (u.Post a up) rest = mentions p a rest
  mentions p (u.Name n) rest = rest
  mentions p (u.Number n) rest = rest
  mentions p (u.Char n) rest = rest
  mentions p (u.Text ts) rest = rest
  mentions p (u.Paren a) rest = mentions p a rest
  mentions p (u.Builtin xs) rest = exprs_mentions (operand p) xs rest

  pub exprs_mentions : Place → Exprs → List Mention → List Mention
  exprs_mentions p u.no_exprs rest = rest
  exprs_mentions p (u.expr a xs) rest = mentions p a (exprs_mentions p xs rest)

  pub maybe_mentions : Place → MaybeExpr → List Mention → List Mention
  maybe_mentions p u.no_expr rest = rest
  maybe_mentions p (u.some_expr a) rest = mentions p a rest

  pub specs_mentions : Place → Specs → List Mention → List Mention
  specs_mentions p u.no_specs rest = rest
  specs_mentions p (u.Keyword w ss) rest = specs_mentions p ss rest
  specs_mentions p (u.Typedef n ss) rest = specs_mentions p ss rest
  specs_mentions p (u.Attribute es ss) rest = specs_mentions p ss rest
  specs_mentions p (u.Record is_union tag b ss) rest = body_mentions p b (specs_mentions p ss rest)
  specs_mentions p (u.Enum tag b ss) rest = list_mentions p b (specs_mentions p ss rest)

  pub body_mentions : Place → MaybeFields → List Mention → List Mention
  body_mentions p u.no_body rest = rest
  body_mentions p (u.body fs) rest = fields_mentions (field p) fs rest

  pub fields_mentions : Place → Fields → List Mention → List Mention
  fields_mentions p u.no_fields rest = rest
  fields_mentions p (u.Field ss ds fs) rest = specs_mentions p ss (declarators_mentions p ds (fields_mentions p fs rest))

  pub declarators_mentions : Place → Declarators → List Mention → List Mention
  declarators_mentions p u.no_declarators rest = rest
  declarators_mentions p (u.declarator d ds) rest = declarator_mentions p false d (declarators_mentions p ds rest)

  pub list_mentions : Place → MaybeEnumerators → List Mention → List Mention
  list_mentions p u.no_list rest = rest
  list_mentions p (u.list es comma) rest = enumerators_mentions p es rest

  pub enumerators_mentions : Place → Enumerators → List Mention → List Mention
  enumerators_mentions p u.no_enumerators rest = rest
  enumerators_mentions p (u.Enumerator n v es) rest = enumerates n ∷ maybe_mentions p v (enumerators_mentions p es rest)

  pub maybe_declarator_mentions : Place → MaybeDeclarator → List Mention → List Mention
  maybe_declarator_mentions p u.no_declarator rest = rest
  maybe_declarator_mentions p (u.some_declarator d) rest = declarator_mentions p false d rest

  -- is_function: of a function at file scope without a body
  pub declarator_mentions : Place → Bool → Declarator → List Mention → List Mention
  declarator_mentions p is_function (u.PointerTo qs d) rest = declarator_mentions p is_function d rest
  declarator_mentions p is_function (u.Declared n) rest = with_declared p.is_field is_function n rest
  declarator_mentions p is_function (u.Group d) rest = declarator_mentions p is_function d rest
  declarator_mentions p is_function (u.ArrayOf d n) rest = declarator_mentions p is_function d (maybe_mentions p n rest)
  declarator_mentions p is_function (u.FunctionOf d ps) rest = declarator_mentions p is_function d (params_mentions p ps rest)

  pub params_mentions : Place → Params → List Mention → List Mention
  params_mentions p u.no_params rest = rest
  params_mentions p (u.Param ss d ps) rest = specs_mentions p ss (maybe_declarator_mentions p d (params_mentions p ps rest))

-- ---- declarations

abbrev mutual
  pub init_mentions : Init → List Mention → List Mention
  init_mentions (u.Plain a) rest = mentions outside a rest
  init_mentions (u.Braces is comma) rest = inits_mentions is rest

  pub inits_mentions : Inits → List Mention → List Mention
  inits_mentions u.no_inits rest = rest
  inits_mentions (u.init i is) rest = init_mentions i (inits_mentions is rest)

abbrev pub maybe_init_mentions : MaybeInit → List Mention → List Mention
maybe_init_mentions u.no_init rest = rest
maybe_init_mentions (u.some_init i) rest = init_mentions i rest

abbrev pub item_mentions : Bool → Item → List Mention → List Mention
item_mentions at_file i rest = declarator_mentions outside (at_file && is_function i.declarator) i.declarator (maybe_init_mentions i.init rest)

abbrev pub items_mentions : Bool → List Item → List Mention → List Mention
items_mentions at_file [] rest = rest
items_mentions at_file (i ∷ is) rest = item_mentions at_file i (items_mentions at_file is rest)

abbrev pub declaration_mentions : Bool → Declaration → List Mention → List Mention
declaration_mentions at_file d rest = specs_mentions outside d.specs (items_mentions at_file d.items rest)

abbrev pub first_mentions : First → List Mention → List Mention
first_mentions (u.FirstDeclaration d) rest = declaration_mentions false d rest
first_mentions (u.FirstExpr e) rest = maybe_mentions outside e rest

-- ---- statements

abbrev mutual
  pub stmt_mentions : Stmt → List Mention → List Mention
  stmt_mentions (u.Block items) rest = block_mentions items rest
  stmt_mentions (u.ExprStmt e) rest = maybe_mentions outside e rest
  stmt_mentions (u.If c s) rest = mentions outside c (stmt_mentions s rest)
  stmt_mentions (u.IfElse c s t) rest = mentions outside c (stmt_mentions s (stmt_mentions t rest))
  stmt_mentions (u.While c s) rest = mentions outside c (stmt_mentions s rest)
  stmt_mentions (u.Do s c) rest = stmt_mentions s (mentions outside c rest)
  stmt_mentions (u.For i c e s) rest = first_mentions i (maybe_mentions outside c (maybe_mentions outside e (stmt_mentions s rest)))
  stmt_mentions u.Break rest = rest
  stmt_mentions u.Continue rest = rest
  stmt_mentions (u.Return e) rest = maybe_mentions outside e rest

  pub block_mentions : BlockItems → List Mention → List Mention
  block_mentions u.no_items rest = rest
  block_mentions (u.declared d is) rest = declaration_mentions false d (block_mentions is rest)
  block_mentions (u.statement s is) rest = stmt_mentions s (block_mentions is rest)

-- ---- the unit

abbrev pub external_mentions : External → List Mention → List Mention
external_mentions (u.Declares d) rest = declaration_mentions true d rest
external_mentions (u.Definition ss d items) rest = specs_mentions outside ss (declarator_mentions outside false d (block_mentions items rest))

abbrev pub unit_mentions : List External → List Mention
unit_mentions [] = []
unit_mentions (x ∷ xs) = external_mentions x (unit_mentions xs)
