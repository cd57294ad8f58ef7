-- The depth of a tree: the greatest count of nodes that hold one of its tokens.
use Rattle.std.specs.Prelude.{ℕ, suc, max, ◌≤◌, List, [], ◌∷◌, Option, Some, None}
use Rattle.c_tree.specs.Tree as u
use Rattle.c_tree.specs.Tree.{Expr, Exprs, MaybeExpr, Specs, Fields, MaybeFields, Declarators, Declarator, MaybeDeclarator, Enumerators, MaybeEnumerators, Params, Init, Inits, MaybeInit, Item, Declaration, First, Stmt, BlockItems, External, Entry, Argument}

abbrev pub greatest : {A : Type 0} → (A → ℕ) → List A → ℕ
greatest f [] = 0
greatest f (x ∷ xs) = max (f x) (greatest f xs)

-- a Text is a node in an attribute, and a Number is one
abbrev pub entry_depth : Entry → ℕ
entry_depth e = of_arguments e.arguments
  where
    of_arguments : Option (List Argument) → ℕ
    of_arguments None = 0
    of_arguments (Some xs) = greatest (λ _. 1) xs

abbrev pub attribute_depth : List Entry → ℕ
attribute_depth es = suc (greatest entry_depth es)

abbrev mutual
  pub depth : Expr → ℕ
  depth (u.Comma a b) = suc (max (depth a) (depth b))
  depth (u.Assign a op b) = suc (max (depth a) (depth b))
  depth (u.Cond c a b) = suc (max (depth c) (max (depth a) (depth b)))
  depth (u.Binary a op b) = suc (max (depth a) (depth b))
  depth (u.Cast ss d a) = suc (max (suc (max (specs_depth ss) (maybe_declarator_depth d))) (depth a))
  depth (u.Prefix op a) = suc (depth a)
  depth (u.SizeofExpr a) = suc (depth a)
  depth (u.SizeofType ss d) = suc (suc (max (specs_depth ss) (maybe_declarator_depth d)))
  depth (u.Index a b) = suc (max (depth a) (depth b))
  depth (u.Call f xs) = suc (max (depth f) (exprs_depth xs))
  depth (u.Dot a n) = suc (depth a)
  depth (u.Arrow a n) = suc (depth a)
  depth (u.Post a up) = suc (depth a)
  depth (u.Name n) = 1
  depth (u.Number n) = 1
  depth (u.Char n) = 1
  depth (u.Text ts) = 1
  depth (u.Paren a) = suc (depth a)
  depth (u.Builtin xs) = suc (exprs_depth xs)

  pub exprs_depth : Exprs → ℕ
  exprs_depth u.no_exprs = 0
  exprs_depth (u.expr a xs) = max (depth a) (exprs_depth xs)

  pub maybe_depth : MaybeExpr → ℕ
  maybe_depth u.no_expr = 0
  maybe_depth (u.some_expr a) = depth a

  pub specs_depth : Specs → ℕ
  specs_depth u.no_specs = 0
  specs_depth (u.Keyword w ss) = specs_depth ss
  specs_depth (u.Typedef n ss) = specs_depth ss
  specs_depth (u.Attribute es ss) = max (attribute_depth es) (specs_depth ss)
  specs_depth (u.Record is_union tag b ss) = max (suc (body_depth b)) (specs_depth ss)
  specs_depth (u.Enum tag b ss) = max (suc (list_depth b)) (specs_depth ss)

  pub body_depth : MaybeFields → ℕ
  body_depth u.no_body = 0
  body_depth (u.body fs) = fields_depth fs

  pub fields_depth : Fields → ℕ
  fields_depth u.no_fields = 0
  fields_depth (u.Field ss ds fs) = max (suc (max (specs_depth ss) (declarators_depth ds))) (fields_depth fs)

  pub declarators_depth : Declarators → ℕ
  declarators_depth u.no_declarators = 0
  declarators_depth (u.declarator d ds) = max (declarator_depth d) (declarators_depth ds)

  pub list_depth : MaybeEnumerators → ℕ
  list_depth u.no_list = 0
  list_depth (u.list es comma) = enumerators_depth es

  pub enumerators_depth : Enumerators → ℕ
  enumerators_depth u.no_enumerators = 0
  enumerators_depth (u.Enumerator n v es) = max (suc (maybe_depth v)) (enumerators_depth es)

  pub maybe_declarator_depth : MaybeDeclarator → ℕ
  maybe_declarator_depth u.no_declarator = 0
  maybe_declarator_depth (u.some_declarator d) = declarator_depth d

  -- a Declared without a name spells nothing
  pub declarator_depth : Declarator → ℕ
  declarator_depth (u.PointerTo qs d) = suc (declarator_depth d)
  declarator_depth (u.Declared None) = 0
  declarator_depth (u.Declared (Some n)) = 1
  declarator_depth (u.Group d) = suc (declarator_depth d)
  declarator_depth (u.ArrayOf d n) = suc (max (declarator_depth d) (maybe_depth n))
  declarator_depth (u.FunctionOf d ps) = suc (max (declarator_depth d) (params_depth ps))

  pub params_depth : Params → ℕ
  params_depth u.no_params = 0
  params_depth (u.Param ss d ps) = max (suc (max (specs_depth ss) (maybe_declarator_depth d))) (params_depth ps)

abbrev mutual
  pub init_depth : Init → ℕ
  init_depth (u.Plain a) = depth a
  init_depth (u.Braces is comma) = suc (inits_depth is)

  pub inits_depth : Inits → ℕ
  inits_depth u.no_inits = 0
  inits_depth (u.init i is) = max (init_depth i) (inits_depth is)

abbrev pub maybe_init_depth : MaybeInit → ℕ
maybe_init_depth u.no_init = 0
maybe_init_depth (u.some_init i) = init_depth i

abbrev pub item_depth : Item → ℕ
item_depth i = suc (max (declarator_depth i.declarator) (max (greatest attribute_depth i.attributes) (maybe_init_depth i.init)))

abbrev pub declaration_depth : Declaration → ℕ
declaration_depth d = suc (max (specs_depth d.specs) (greatest item_depth d.items))

abbrev pub first_depth : First → ℕ
first_depth (u.FirstDeclaration d) = declaration_depth d
first_depth (u.FirstExpr e) = maybe_depth e

abbrev mutual
  pub stmt_depth : Stmt → ℕ
  stmt_depth (u.Block items) = suc (block_depth items)
  stmt_depth (u.ExprStmt e) = suc (maybe_depth e)
  stmt_depth (u.If c s) = suc (max (depth c) (stmt_depth s))
  stmt_depth (u.IfElse c s t) = suc (max (depth c) (max (stmt_depth s) (stmt_depth t)))
  stmt_depth (u.While c s) = suc (max (depth c) (stmt_depth s))
  stmt_depth (u.Do s c) = suc (max (depth c) (stmt_depth s))
  stmt_depth (u.For i c e s) = suc (max (first_depth i) (max (maybe_depth c) (max (maybe_depth e) (stmt_depth s))))
  stmt_depth u.Break = 1
  stmt_depth u.Continue = 1
  stmt_depth (u.Return e) = suc (maybe_depth e)

  pub block_depth : BlockItems → ℕ
  block_depth u.no_items = 0
  block_depth (u.declared d is) = max (declaration_depth d) (block_depth is)
  block_depth (u.statement s is) = max (stmt_depth s) (block_depth is)

abbrev pub external_depth : External → ℕ
external_depth (u.Declares d) = declaration_depth d
external_depth (u.Definition ss d items) = suc (max (specs_depth ss) (max (declarator_depth d) (suc (block_depth items))))

abbrev pub unit_depth : List External → ℕ
unit_depth = greatest external_depth

abbrev pub IsFlat : List External → Type 0
IsFlat u = unit_depth u ≤ 200
