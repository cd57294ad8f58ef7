-- The program's tree, seen with the place and the number of each node.
use Rattle.std.specs.Prelude.{List, [], ◌∷◌, map, Option, Some, None, Box}
use Rattle.std.specs.Global.{Global}
use Rattle.c_tree.specs.Tok as t
use Rattle.c_tree.specs.Tok.{Word}
use Rattle.c_tree.specs.Tree as u
use Rattle.c_tree.specs.Marked as m
use Rattle.c_tree.specs.declared.expression.Expr.{Expr}
use Rattle.c_tree.specs.declared.expression.TypeName.{TypeName}
use Rattle.c_tree.specs.declared.expression.Field.{Field}
use Rattle.c_tree.specs.declared.expression.Enumerator.{Enumerator}
use Rattle.c_tree.specs.declared.expression.Param.{Param}
use Rattle.c_tree.specs.declared.expression.Spec.{Spec}
use Rattle.c_tree.specs.declared.expression.Declarator.{Declarator}
use Rattle.c_tree.specs.declared.expression.Record.{Record}
use Rattle.c_tree.specs.declared.expression.Enum.{Enum}
use Rattle.c_tree.specs.declared.expression.EnumeratorList.{EnumeratorList}
use Rattle.c_tree.specs.declared.expression.Attribute.{Attribute}
use Rattle.c_tree.specs.declared.expression.AttributeArgument.{AttributeArgument}
use Rattle.c_tree.specs.declared.expression.Entry.{Entry}
use Rattle.c_tree.specs.declared.operator.BinaryOp.{BinaryOp}
use Rattle.c_tree.specs.declared.operator.AssignOp.{AssignOp}
use Rattle.c_tree.specs.declared.operator.PrefixOp.{PrefixOp}
use Rattle.c_tree.specs.declared.operator.Step.{Step}
use Rattle.c_tree.specs.declared.operator.Keyword.{Keyword}
use Rattle.c_tree.specs.declared.operator.Qualifier.{Qualifier}
use Rattle.c_tree.specs.declared.statement.Init.{Init}
use Rattle.c_tree.specs.declared.statement.Item.{Item}
use Rattle.c_tree.specs.declared.statement.Declaration.{Declaration}
use Rattle.c_tree.specs.declared.statement.ForFirst.{ForFirst}
use Rattle.c_tree.specs.declared.statement.Stmt.{Stmt}
use Rattle.c_tree.specs.declared.statement.BlockItem.{BlockItem}
use Rattle.c_tree.specs.declared.statement.Definition.{Definition}
use Rattle.c_tree.specs.declared.statement.External.{External}
use Rattle.c_tree.specs.declared.statement.Unit.{Unit}
use Rattle.c_tree.specs.declared.operator.BinaryOp.TheVariants as o
use Rattle.c_tree.specs.declared.operator.AssignOp.TheVariants as a
use Rattle.c_tree.specs.declared.operator.PrefixOp.TheVariants as p
use Rattle.c_tree.specs.declared.operator.Step.TheVariants as s
use Rattle.c_tree.specs.declared.operator.Keyword.TheVariants as k
use Rattle.c_tree.specs.declared.operator.Qualifier.TheVariants as q
use Rattle.c_tree.specs.declared.expression.AttributeArgument.TheVariants as g
use Rattle.c_tree.specs.declared.expression.Declarator.TheBlock as b
use Rattle.c_tree.specs.declared.statement.Init.TheBlock as i
use Rattle.c_tree.specs.declared.statement.ForFirst.TheVariants as f
use Rattle.c_tree.specs.declared.statement.BlockItem.TheBlock as x
use Rattle.c_tree.specs.declared.statement.External.TheVariants as e

abbrev pub view_op : BinaryOp → u.BinaryOp
view_op o.Or = u.Or
view_op o.And = u.And
view_op o.BitOr = u.BitOr
view_op o.BitXor = u.BitXor
view_op o.BitAnd = u.BitAnd
view_op o.Eq = u.Eq
view_op o.Ne = u.Ne
view_op o.Lt = u.Lt
view_op o.Gt = u.Gt
view_op o.Le = u.Le
view_op o.Ge = u.Ge
view_op o.Shl = u.Shl
view_op o.Shr = u.Shr
view_op o.Add = u.Add
view_op o.Sub = u.Sub
view_op o.Mul = u.Mul
view_op o.Div = u.Div
view_op o.Rem = u.Rem

abbrev pub view_assign : AssignOp → u.AssignOp
view_assign a.Set = u.Set
view_assign a.Mul = u.MulSet
view_assign a.Div = u.DivSet
view_assign a.Rem = u.RemSet
view_assign a.Add = u.AddSet
view_assign a.Sub = u.SubSet
view_assign a.Shl = u.ShlSet
view_assign a.Shr = u.ShrSet
view_assign a.BitAnd = u.AndSet
view_assign a.BitXor = u.XorSet
view_assign a.BitOr = u.OrSet

abbrev pub view_prefix : PrefixOp → u.PrefixOp
view_prefix p.Increment = u.Increment
view_prefix p.Decrement = u.Decrement
view_prefix p.Address = u.Address
view_prefix p.Deref = u.Deref
view_prefix p.Plus = u.Positive
view_prefix p.Minus = u.Negative
view_prefix p.BitNot = u.Complement
view_prefix p.Not = u.Not

abbrev pub view_step : Step → u.Step
view_step s.Increment = u.PostIncrement
view_step s.Decrement = u.PostDecrement

abbrev pub view_keyword : Keyword → Word
view_keyword k.Typedef = t.KTypedef
view_keyword k.Extern = t.KExtern
view_keyword k.Static = t.KStatic
view_keyword k.Auto = t.KAuto
view_keyword k.Register = t.KRegister
view_keyword k.Inline = t.KInline
view_keyword k.Const = t.KConst
view_keyword k.Volatile = t.KVolatile
view_keyword k.Restrict = t.KRestrict
view_keyword k.Void = t.KVoid
view_keyword k.Bool = t.KBool
view_keyword k.Char = t.KChar
view_keyword k.Short = t.KShort
view_keyword k.Int = t.KInt
view_keyword k.Long = t.KLong
view_keyword k.Signed = t.KSigned
view_keyword k.Unsigned = t.KUnsigned

abbrev pub view_qualifier : Qualifier → Word
view_qualifier q.Const = t.KConst
view_qualifier q.Volatile = t.KVolatile
view_qualifier q.Restrict = t.KRestrict

abbrev pub view_argument : AttributeArgument → m.Argument
view_argument (g.Number at n) = m.NumberArgument at n
view_argument (g.Text at ts) = m.TextArgument at ts

abbrev pub view_arguments : Option (List AttributeArgument) → Option (List m.Argument)
view_arguments None = None
view_arguments (Some xs) = Some (map view_argument xs)

abbrev pub view_entry : Entry → m.Entry
view_entry e = record { name = e.name; arguments = view_arguments e.arguments }

abbrev pub view_attribute : Attribute → m.Attribute
view_attribute a = record { at = a.at; entries = map view_entry a.entries }

abbrev mutual
  pub view : Expr → m.Expr
  view (b.Comma' at p a q c) = m.Comma at (view a) (view c)
  view (b.Assign' at p a op q c) = m.Assign at (view a) (view_assign op) (view c)
  view (b.Cond' at p a q c r d) = m.Cond at (view a) (view c) (view d)
  view (b.Binary' at p a op q c) = m.Binary at (view a) (view_op op) (view c)
  view (b.Cast' at p at2 shape ss d q a) = m.Cast at (m.type_name at2 (view_specs ss) (view_maybe_declarator d)) (view a)
  view (b.Prefix' at op p a) = m.Prefix at (view_prefix op) (view a)
  view (b.SizeofExpr' at p a) = m.SizeofExpr at (view a)
  view (b.SizeofType' at p at2 shape ss d) = m.SizeofType at (m.type_name at2 (view_specs ss) (view_maybe_declarator d))
  view (b.Index' at p a q c) = m.Index at (view a) (view c)
  view (b.Call' at p f shape xs) = m.Call at (view f) (view_exprs xs)
  view (b.Dot' at p a n) = m.Dot at (view a) n
  view (b.Arrow' at p a n) = m.Arrow at (view a) n
  view (b.Post' at p a op) = m.Post at (view a) (view_step op)
  view (b.Name at n) = m.Name at n
  view (b.Number at n) = m.Number at n
  view (b.Char at n) = m.Char at n
  view (b.Text at ts) = m.Text at ts
  view (b.Paren' at p a) = m.Paren at (view a)
  view (b.Builtin' at shape xs) = m.Builtin at (view_exprs xs)

  pub view_exprs : {n : _} → b.Row_of-Expr n → m.Exprs
  view_exprs b.end_of-Expr = m.no_exprs
  view_exprs (b.more_of-Expr a xs) = m.expr (view a) (view_exprs xs)

  pub view_spec : Spec → m.Specs → m.Specs
  view_spec (b.Keyword k) ss = m.Keyword (view_keyword k) ss
  view_spec (b.Typedef n) ss = m.Typedef n ss
  view_spec (b.Attribute a) ss = m.attribute (view_attribute a) ss
  view_spec (b.Record r) ss = view_record r ss
  view_spec (b.Enum e) ss = view_enum e ss

  pub view_specs : {n : _} → b.Row_of-Spec n → m.Specs
  view_specs b.end_of-Spec = m.no_specs
  view_specs (b.more_of-Spec s ss) = view_spec s (view_specs ss)

  pub view_record : Record → m.Specs → m.Specs
  view_record (b.struct-Record at is_union tag fields) ss = m.Record at is_union tag (view_body fields) ss

  pub view_body : b.Held-Record-fields → m.MaybeFields
  view_body b.Record-fields-None' = m.no_body
  view_body (b.Record-fields-Some' shape fs) = m.body (view_fields fs)

  pub view_fields : {n : _} → b.Row_of-Field n → m.Fields
  view_fields b.end_of-Field = m.no_fields
  view_fields (b.more_of-Field at s1 ss s2 ds fs) = m.Field at (view_specs ss) (view_declarators ds) (view_fields fs)

  pub view_declarators : {n : _} → b.Row_of-Declarator n → m.Declarators
  view_declarators b.end_of-Declarator = m.no_declarators
  view_declarators (b.more_of-Declarator d ds) = m.declarator (view_declarator d) (view_declarators ds)

  pub view_enum : Enum → m.Specs → m.Specs
  view_enum (b.struct-Enum at tag list) ss = m.Enum at tag (view_list list) ss

  pub view_list : b.Held-Enum-list → m.MaybeEnumerators
  view_list b.Enum-list-None' = m.no_list
  view_list (b.Enum-list-Some' l) = view_enumerator_list l

  pub view_enumerator_list : EnumeratorList → m.MaybeEnumerators
  view_enumerator_list (b.struct-EnumeratorList shape es comma) = m.list (view_enumerators es) comma

  pub view_enumerators : {n : _} → b.Row_of-Enumerator n → m.Enumerators
  view_enumerators b.end_of-Enumerator = m.no_enumerators
  view_enumerators (b.more_of-Enumerator at n v es) = m.Enumerator at n (view_maybe v) (view_enumerators es)

  pub view_maybe : b.Held-Declarator-ArrayOf-2 → m.MaybeExpr
  view_maybe b.Declarator-ArrayOf-2-None' = m.no_expr
  view_maybe (b.Declarator-ArrayOf-2-Some' p a) = m.some_expr (view a)

  pub view_maybe_declarator : b.Held-Param-declarator → m.MaybeDeclarator
  view_maybe_declarator b.Param-declarator-None' = m.no_declarator
  view_maybe_declarator (b.Param-declarator-Some' p d) = m.some_declarator (view_declarator d)

  pub view_declarator : Declarator → m.Declarator
  view_declarator (b.PointerTo' at qs p d) = m.PointerTo at (map view_qualifier qs) (view_declarator d)
  view_declarator (b.Declared at n) = m.Declared at n
  view_declarator (b.Group' at p d) = m.Group at (view_declarator d)
  view_declarator (b.ArrayOf' at p d n) = m.ArrayOf at (view_declarator d) (view_maybe n)
  view_declarator (b.FunctionOf' at p d shape ps) = m.FunctionOf at (view_declarator d) (view_params ps)

  pub view_params : {n : _} → b.Row_of-Param n → m.Params
  view_params b.end_of-Param = m.no_params
  view_params (b.more_of-Param at shape ss d ps) = m.Param at (view_specs ss) (view_maybe_declarator d) (view_params ps)

-- ---- the same for values that stand alone

abbrev pub exprs_of : List Expr → m.Exprs
exprs_of [] = m.no_exprs
exprs_of (a ∷ xs) = m.expr (view a) (exprs_of xs)

abbrev pub specs_of : List Spec → m.Specs
specs_of [] = m.no_specs
specs_of (s ∷ ss) = view_spec s (specs_of ss)

abbrev pub declarators_of : List Declarator → m.Declarators
declarators_of [] = m.no_declarators
declarators_of (d ∷ ds) = m.declarator (view_declarator d) (declarators_of ds)

abbrev pub view_maybe_expr : Option Expr → m.MaybeExpr
view_maybe_expr None = m.no_expr
view_maybe_expr (Some a) = m.some_expr (view a)

abbrev pub boxed_expr : Option (Box Expr Global) → m.MaybeExpr
boxed_expr None = m.no_expr
boxed_expr (Some a) = m.some_expr (view a.value)

abbrev pub boxed_declarator : Option (Box Declarator Global) → m.MaybeDeclarator
boxed_declarator None = m.no_declarator
boxed_declarator (Some d) = m.some_declarator (view_declarator d.value)

abbrev pub view_type_name : TypeName → m.TypeName
view_type_name t = m.type_name t.at (specs_of t.specs) (boxed_declarator t.declarator)

abbrev pub fields_of : List Field → m.Fields
fields_of [] = m.no_fields
fields_of (f ∷ fs) = m.Field f.at (specs_of f.specs) (declarators_of f.declarators) (fields_of fs)

abbrev pub body_of : Option (List Field) → m.MaybeFields
body_of None = m.no_body
body_of (Some fs) = m.body (fields_of fs)

abbrev pub enumerators_of : List Enumerator → m.Enumerators
enumerators_of [] = m.no_enumerators
enumerators_of (e ∷ es) = m.Enumerator e.at e.name (boxed_expr e.value) (enumerators_of es)

abbrev pub list_of : Option EnumeratorList → m.MaybeEnumerators
list_of None = m.no_list
list_of (Some l) = view_enumerator_list l

abbrev pub params_of : List Param → m.Params
params_of [] = m.no_params
params_of (p ∷ ps) = m.Param p.at (specs_of p.specs) (boxed_declarator p.declarator) (params_of ps)

-- ---- declarations

abbrev mutual
  pub view_init : Init → m.Init
  view_init (i.Expr a) = m.Plain (view a)
  view_init (i.Braces' at shape is comma) = m.Braces at (view_inits is) comma

  pub view_inits : {n : _} → i.Row_of-Init n → m.Inits
  view_inits i.end_of-Init = m.no_inits
  view_inits (i.more_of-Init a is) = m.init (view_init a) (view_inits is)

abbrev pub inits_of : List Init → m.Inits
inits_of [] = m.no_inits
inits_of (a ∷ is) = m.init (view_init a) (inits_of is)

abbrev pub view_maybe_init : Option Init → m.MaybeInit
view_maybe_init None = m.no_init
view_maybe_init (Some a) = m.some_init (view_init a)

abbrev pub view_item : Item → m.Item
view_item x = record { at = x.at; declarator = view_declarator x.declarator; attributes = map view_attribute x.attributes; init = view_maybe_init x.init }

abbrev pub view_declaration : Declaration → m.Declaration
view_declaration d = record { at = d.at; specs = specs_of d.specs; items = map view_item d.items }

abbrev pub view_first : ForFirst → m.First
view_first (f.Declaration d) = m.FirstDeclaration (view_declaration d)
view_first (f.Expr a) = m.FirstExpr (view_maybe_expr a)

-- ---- statements

abbrev mutual
  pub view_stmt : Stmt → m.Stmt
  view_stmt (x.Block' at shape is) = m.Block at (view_items is)
  view_stmt (x.Expr at a) = m.ExprStmt at (view_maybe_expr a)
  view_stmt (x.If' at c p s) = m.If at (view c) (view_stmt s)
  view_stmt (x.IfElse' at c p s q t) = m.IfElse at (view c) (view_stmt s) (view_stmt t)
  view_stmt (x.While' at c p s) = m.While at (view c) (view_stmt s)
  view_stmt (x.Do' at p s c) = m.Do at (view_stmt s) (view c)
  view_stmt (x.For' at a c e p s) = m.For at (view_first a) (view_maybe_expr c) (view_maybe_expr e) (view_stmt s)
  view_stmt (x.Break at) = m.Break at
  view_stmt (x.Continue at) = m.Continue at
  view_stmt (x.Return at a) = m.Return at (view_maybe_expr a)

  pub view_items : {n : _} → x.Row_of-BlockItem n → m.BlockItems
  view_items x.end_of-BlockItem = m.no_items
  view_items (x.more_of-BlockItem a is) = view_block_item a (view_items is)

  pub view_block_item : BlockItem → m.BlockItems → m.BlockItems
  view_block_item (x.Declaration d) is = m.declared (view_declaration d) is
  view_block_item (x.Stmt s) is = m.statement (view_stmt s) is

abbrev pub items_of : List BlockItem → m.BlockItems
items_of [] = m.no_items
items_of (a ∷ is) = view_block_item a (items_of is)

-- ---- the unit

abbrev pub view_definition : Definition → m.External
view_definition d = m.Definition d.at (specs_of d.specs) (view_declarator d.declarator) d.body.at (items_of d.body.items)

abbrev pub view_external : External → m.External
view_external (e.Declaration d) = m.Declares (view_declaration d)
view_external (e.Definition d) = view_definition d

abbrev pub view_unit : Unit → List m.External
view_unit u = map view_external u.items
