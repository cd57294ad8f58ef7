-- The tree without places and numbers.
use Rattle.std.specs.Prelude.{List, map, Option, Some, None}
use Rattle.c_tree.specs.Tree as u
use Rattle.c_tree.specs.Marked as m
use Rattle.c_tree.specs.Marked.{Expr, TypeName, Exprs, MaybeExpr, Specs, Fields, MaybeFields, Declarators, Declarator, MaybeDeclarator, Enumerators, MaybeEnumerators, Params, Init, Inits, MaybeInit, Item, Declaration, First, Stmt, BlockItems, External, Entry, Argument, Attribute}

abbrev pub bare_argument : Argument → u.Argument
bare_argument (m.NumberArgument at n) = u.NumberArgument n
bare_argument (m.TextArgument at ts) = u.TextArgument ts

abbrev pub bare_arguments : Option (List Argument) → Option (List u.Argument)
bare_arguments None = None
bare_arguments (Some xs) = Some (map bare_argument xs)

abbrev pub bare_entry : Entry → u.Entry
bare_entry e = record { name = e.name; arguments = bare_arguments e.arguments }

abbrev pub bare_attribute : Attribute → List u.Entry
bare_attribute a = map bare_entry a.entries

abbrev mutual
  pub bare : Expr → u.Expr
  bare (m.Comma at a b) = u.Comma (bare a) (bare b)
  bare (m.Assign at a op b) = u.Assign (bare a) op (bare b)
  bare (m.Cond at c a b) = u.Cond (bare c) (bare a) (bare b)
  bare (m.Binary at a op b) = u.Binary (bare a) op (bare b)
  bare (m.Cast at t a) = bare_cast t (bare a)
  bare (m.Prefix at op a) = u.Prefix op (bare a)
  bare (m.SizeofExpr at a) = u.SizeofExpr (bare a)
  bare (m.SizeofType at t) = bare_sizeof t
  bare (m.Index at a b) = u.Index (bare a) (bare b)
  bare (m.Call at f xs) = u.Call (bare f) (bare_exprs xs)
  bare (m.Dot at a n) = u.Dot (bare a) n
  bare (m.Arrow at a n) = u.Arrow (bare a) n
  bare (m.Post at a s) = u.Post (bare a) s
  bare (m.Name at n) = u.Name n
  bare (m.Number at n) = u.Number n
  bare (m.Char at n) = u.Char n
  bare (m.Text at ts) = u.Text ts
  bare (m.Paren at a) = u.Paren (bare a)
  bare (m.Builtin at xs) = u.Builtin (bare_exprs xs)

  pub bare_cast : TypeName → u.Expr → u.Expr
  bare_cast (m.type_name at ss d) a = u.Cast (bare_specs ss) (bare_maybe_declarator d) a

  pub bare_sizeof : TypeName → u.Expr
  bare_sizeof (m.type_name at ss d) = u.SizeofType (bare_specs ss) (bare_maybe_declarator d)

  pub bare_exprs : Exprs → u.Exprs
  bare_exprs m.no_exprs = u.no_exprs
  bare_exprs (m.expr a xs) = u.expr (bare a) (bare_exprs xs)

  pub bare_maybe : MaybeExpr → u.MaybeExpr
  bare_maybe m.no_expr = u.no_expr
  bare_maybe (m.some_expr a) = u.some_expr (bare a)

  pub bare_specs : Specs → u.Specs
  bare_specs m.no_specs = u.no_specs
  bare_specs (m.Keyword w ss) = u.Keyword w (bare_specs ss)
  bare_specs (m.Typedef n ss) = u.Typedef n (bare_specs ss)
  bare_specs (m.attribute a ss) = u.Attribute (bare_attribute a) (bare_specs ss)
  bare_specs (m.Record at is_union tag b ss) = u.Record is_union tag (bare_body b) (bare_specs ss)
  bare_specs (m.Enum at tag b ss) = u.Enum tag (bare_list b) (bare_specs ss)

  pub bare_body : MaybeFields → u.MaybeFields
  bare_body m.no_body = u.no_body
  bare_body (m.body fs) = u.body (bare_fields fs)

  pub bare_fields : Fields → u.Fields
  bare_fields m.no_fields = u.no_fields
  bare_fields (m.Field at ss ds fs) = u.Field (bare_specs ss) (bare_declarators ds) (bare_fields fs)

  pub bare_declarators : Declarators → u.Declarators
  bare_declarators m.no_declarators = u.no_declarators
  bare_declarators (m.declarator d ds) = u.declarator (bare_declarator d) (bare_declarators ds)

  pub bare_list : MaybeEnumerators → u.MaybeEnumerators
  bare_list m.no_list = u.no_list
  bare_list (m.list es comma) = u.list (bare_enumerators es) comma

  pub bare_enumerators : Enumerators → u.Enumerators
  bare_enumerators m.no_enumerators = u.no_enumerators
  bare_enumerators (m.Enumerator at n v es) = u.Enumerator n (bare_maybe v) (bare_enumerators es)

  pub bare_maybe_declarator : MaybeDeclarator → u.MaybeDeclarator
  bare_maybe_declarator m.no_declarator = u.no_declarator
  bare_maybe_declarator (m.some_declarator d) = u.some_declarator (bare_declarator d)

  pub bare_declarator : Declarator → u.Declarator
  bare_declarator (m.PointerTo at qs d) = u.PointerTo qs (bare_declarator d)
  bare_declarator (m.Declared at n) = u.Declared n
  bare_declarator (m.Group at d) = u.Group (bare_declarator d)
  bare_declarator (m.ArrayOf at d n) = u.ArrayOf (bare_declarator d) (bare_maybe n)
  bare_declarator (m.FunctionOf at d ps) = u.FunctionOf (bare_declarator d) (bare_params ps)

  pub bare_params : Params → u.Params
  bare_params m.no_params = u.no_params
  bare_params (m.Param at ss d ps) = u.Param (bare_specs ss) (bare_maybe_declarator d) (bare_params ps)

abbrev mutual
  pub bare_init : Init → u.Init
  bare_init (m.Plain a) = u.Plain (bare a)
  bare_init (m.Braces at is comma) = u.Braces (bare_inits is) comma

  pub bare_inits : Inits → u.Inits
  bare_inits m.no_inits = u.no_inits
  bare_inits (m.init i is) = u.init (bare_init i) (bare_inits is)

abbrev pub bare_maybe_init : MaybeInit → u.MaybeInit
bare_maybe_init m.no_init = u.no_init
bare_maybe_init (m.some_init i) = u.some_init (bare_init i)

abbrev pub bare_item : Item → u.Item
bare_item i = record { declarator = bare_declarator i.declarator; attributes = map bare_attribute i.attributes; init = bare_maybe_init i.init }

abbrev pub bare_declaration : Declaration → u.Declaration
bare_declaration d = record { specs = bare_specs d.specs; items = map bare_item d.items }

abbrev pub bare_first : First → u.First
bare_first (m.FirstDeclaration d) = u.FirstDeclaration (bare_declaration d)
bare_first (m.FirstExpr e) = u.FirstExpr (bare_maybe e)

abbrev mutual
  pub bare_stmt : Stmt → u.Stmt
  bare_stmt (m.Block at is) = u.Block (bare_block is)
  bare_stmt (m.ExprStmt at e) = u.ExprStmt (bare_maybe e)
  bare_stmt (m.If at c s) = u.If (bare c) (bare_stmt s)
  bare_stmt (m.IfElse at c s t) = u.IfElse (bare c) (bare_stmt s) (bare_stmt t)
  bare_stmt (m.While at c s) = u.While (bare c) (bare_stmt s)
  bare_stmt (m.Do at s c) = u.Do (bare_stmt s) (bare c)
  bare_stmt (m.For at i c e s) = u.For (bare_first i) (bare_maybe c) (bare_maybe e) (bare_stmt s)
  bare_stmt (m.Break at) = u.Break
  bare_stmt (m.Continue at) = u.Continue
  bare_stmt (m.Return at e) = u.Return (bare_maybe e)

  pub bare_block : BlockItems → u.BlockItems
  bare_block m.no_items = u.no_items
  bare_block (m.declared d is) = u.declared (bare_declaration d) (bare_block is)
  bare_block (m.statement s is) = u.statement (bare_stmt s) (bare_block is)

abbrev pub bare_external : External → u.External
bare_external (m.Declares d) = u.Declares (bare_declaration d)
bare_external (m.Definition at ss d at2 is) = u.Definition (bare_specs ss) (bare_declarator d) (bare_block is)

abbrev pub bare_unit : List External → List u.External
bare_unit = map bare_external
