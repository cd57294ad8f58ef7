-- Which units are not rewritten: those that declare a name that is kept for the entry points, and those with a builtin whose
-- token would depend on a number among the calls.
use Rattle.std.specs.Prelude.{ℕ, ◌+◌, Bool, true, false, ◌&&◌, ◌==◌, if◌then◌else◌, List, [], ◌∷◌, length, Option, Some, None}
use Rattle.tok_base.specs.declared.token.Span.{Span}
use Rattle.c_tree.specs.Marked as m
use Rattle.c_tree.specs.declared.operator.At.{At}
use Rattle.c_rules.specs.Known.{Known}
use Rattle.alloc_infer.specs.Sites.{Mark, marks_of}
use Rattle.token_modes.specs.declared.mode.Mode.{Mode}
use Rattle.token_modes.specs.declared.mode.Mode.TheVariants.{Increment, Random, TypeHash, Split}
use Rattle.token_modes.specs.declared.plan.Plan.{Plan}
use Rattle.tag_rules.specs.EntryPoints.{reserved}

-- ---- the names that a unit declares, in the order of the text: those of its declarators outside record fields, and of all
-- its enumerators

-- a name where it stands
pub record Placed : Type 0 where
  pub name : List ℕ
  pub span : Span

abbrev pub placed : At → List ℕ → Placed
placed at n = record { name = n; span = record { start = at.span.start; end = at.span.start + length n } }

-- before the names behind it
abbrev pub with_name : (is_field : Bool) → At → Option (List ℕ) → List Placed → List Placed
with_name is_field at None more = more
with_name true at (Some n) more = more
with_name false at (Some n) more = placed at n ∷ more

-- `field`: it stands in a field of a record
abbrev mutual
  pub names : (field : Bool) → m.Expr → List Placed → List Placed
  names field (m.Comma at a b) more = names field a (names field b more)
  names field (m.Assign at a o b) more = names field a (names field b more)
  names field (m.Cond at c a b) more = names field c (names field a (names field b more))
  names field (m.Binary at a o b) more = names field a (names field b more)
  names field (m.Cast at n a) more = type_names field n (names field a more)
  names field (m.Prefix at o a) more = names field a more
  names field (m.SizeofExpr at a) more = names field a more
  names field (m.SizeofType at n) more = type_names field n more
  names field (m.Index at a b) more = names field a (names field b more)
  names field (m.Call at f es) more = names field f (all_names field es more)
  names field (m.Dot at a n) more = names field a more
  names field (m.Arrow at a n) more = names field a more
  names field (m.Post at a s) more = names field a more
  names field (m.Name at n) more = more
  names field (m.Number at n) more = more
  names field (m.Char at c) more = more
  names field (m.Text at ts) more = more
  names field (m.Paren at a) more = names field a more
  names field (m.Builtin at es) more = all_names field es more

  pub type_names : (field : Bool) → m.TypeName → List Placed → List Placed
  type_names field (m.type_name at ss d) more = specs_names field ss (maybe_declarator_names field d more)

  pub all_names : (field : Bool) → m.Exprs → List Placed → List Placed
  all_names field m.no_exprs more = more
  all_names field (m.expr a es) more = names field a (all_names field es more)

  pub maybe_names : (field : Bool) → m.MaybeExpr → List Placed → List Placed
  maybe_names field m.no_expr more = more
  maybe_names field (m.some_expr a) more = names field a more

  pub specs_names : (field : Bool) → m.Specs → List Placed → List Placed
  specs_names field m.no_specs more = more
  specs_names field (m.Keyword w ss) more = specs_names field ss more
  specs_names field (m.Typedef n ss) more = specs_names field ss more
  specs_names field (m.attribute a ss) more = specs_names field ss more
  specs_names field (m.Record at is_union tag b ss) more = body_names b (specs_names field ss more)
  specs_names field (m.Enum at tag l ss) more = list_names field l (specs_names field ss more)

  pub body_names : m.MaybeFields → List Placed → List Placed
  body_names m.no_body more = more
  body_names (m.body fs) more = fields_names fs more

  pub fields_names : m.Fields → List Placed → List Placed
  fields_names m.no_fields more = more
  fields_names (m.Field at ss ds fs) more = specs_names true ss (declarators_names ds (fields_names fs more))

  pub declarators_names : m.Declarators → List Placed → List Placed
  declarators_names m.no_declarators more = more
  declarators_names (m.declarator d ds) more = declarator_names true d (declarators_names ds more)

  pub list_names : (field : Bool) → m.MaybeEnumerators → List Placed → List Placed
  list_names field m.no_list more = more
  list_names field (m.list es comma) more = enumerators_names field es more

  -- an enumerator counts in a field too
  pub enumerators_names : (field : Bool) → m.Enumerators → List Placed → List Placed
  enumerators_names field m.no_enumerators more = more
  enumerators_names field (m.Enumerator at n v es) more = placed at n ∷ maybe_names field v (enumerators_names field es more)

  pub maybe_declarator_names : (field : Bool) → m.MaybeDeclarator → List Placed → List Placed
  maybe_declarator_names field m.no_declarator more = more
  maybe_declarator_names field (m.some_declarator d) more = declarator_names field d more

  pub declarator_names : (field : Bool) → m.Declarator → List Placed → List Placed
  declarator_names field (m.PointerTo at qs d) more = declarator_names field d more
  declarator_names field (m.Declared at n) more = with_name field at n more
  declarator_names field (m.Group at d) more = declarator_names field d more
  declarator_names field (m.ArrayOf at d n) more = declarator_names field d (maybe_names field n more)
  declarator_names field (m.FunctionOf at d ps) more = declarator_names field d (params_names field ps more)

  pub params_names : (field : Bool) → m.Params → List Placed → List Placed
  params_names field m.no_params more = more
  params_names field (m.Param at ss d ps) more = specs_names field ss (maybe_declarator_names field d (params_names field ps more))

-- ---- initialisers and declarations

abbrev mutual
  pub init_names : m.Init → List Placed → List Placed
  init_names (m.Plain a) more = names false a more
  init_names (m.Braces at gs comma) more = inits_names gs more

  pub inits_names : m.Inits → List Placed → List Placed
  inits_names m.no_inits more = more
  inits_names (m.init g gs) more = init_names g (inits_names gs more)

abbrev pub maybe_init_names : m.MaybeInit → List Placed → List Placed
maybe_init_names m.no_init more = more
maybe_init_names (m.some_init g) more = init_names g more

abbrev pub items_names : List m.Item → List Placed → List Placed
items_names [] more = more
items_names (item ∷ items) more = declarator_names false item.declarator (maybe_init_names item.init (items_names items more))

abbrev pub declaration_names : m.Declaration → List Placed → List Placed
declaration_names d more = specs_names false d.specs (items_names d.items more)

-- ---- statements

abbrev pub first_names : m.First → List Placed → List Placed
first_names (m.FirstDeclaration d) more = declaration_names d more
first_names (m.FirstExpr e) more = maybe_names false e more

abbrev mutual
  pub stmt_names : m.Stmt → List Placed → List Placed
  stmt_names (m.Block at items) more = block_names items more
  stmt_names (m.ExprStmt at e) more = maybe_names false e more
  stmt_names (m.If at c s) more = names false c (stmt_names s more)
  stmt_names (m.IfElse at c s r) more = names false c (stmt_names s (stmt_names r more))
  stmt_names (m.While at c s) more = names false c (stmt_names s more)
  stmt_names (m.Do at s c) more = stmt_names s (names false c more)
  stmt_names (m.For at f c e s) more = first_names f (maybe_names false c (maybe_names false e (stmt_names s more)))
  stmt_names (m.Break at) more = more
  stmt_names (m.Continue at) more = more
  stmt_names (m.Return at e) more = maybe_names false e more

  pub block_names : m.BlockItems → List Placed → List Placed
  block_names m.no_items more = more
  block_names (m.declared d items) more = declaration_names d (block_names items more)
  block_names (m.statement s items) more = stmt_names s (block_names items more)

-- ---- the unit

abbrev pub external_names : m.External → List Placed → List Placed
external_names (m.Declares d) more = declaration_names d more
external_names (m.Definition at ss d body_at items) more = specs_names false ss (declarator_names false d (block_names items more))

abbrev pub unit_names : List m.External → List Placed
unit_names [] = []
unit_names (x ∷ xs) = external_names x (unit_names xs)

-- ---- the first of them that begins `__alloc_token_`

abbrev pub begins_with : List ℕ → List ℕ → Bool
begins_with [] n = true
begins_with (c ∷ cs) [] = false
begins_with (c ∷ cs) (b ∷ bs) = c == b && begins_with cs bs

abbrev pub first_reserved : List Placed → Option Span
first_reserved [] = None
first_reserved (p ∷ ps) = if begins_with reserved p.name then Some p.span else first_reserved ps

unfoldable pub reserved_name : List m.External → Option Span
reserved_name u = first_reserved (unit_names u)

-- ---- the first builtin, in a mode that goes by a number among the calls

abbrev pub goes_by_number : Mode → Bool
goes_by_number Increment = true
goes_by_number Random = true
goes_by_number TypeHash = false
goes_by_number Split = false

abbrev pub first_mark : List Mark → Option Span
first_mark [] = None
first_mark (x ∷ xs) = Some x.span

unfoldable pub stateful : Known → Plan → List m.External → Option Span
stateful known plan u = if goes_by_number plan.mode then first_mark (marks_of known u) else None

-- ---- what keeps a unit as it is, the reserved name before the builtin

pub data Refusal : Type 0 where
  ReservedName : Span → Refusal
  Stateful : Span → Refusal

abbrev pub or_stateful : Option Span → Option Span → Option Refusal
or_stateful (Some s) t = Some (ReservedName s)
or_stateful None (Some t) = Some (Stateful t)
or_stateful None None = None

abbrev pub refusal : Known → Plan → List m.External → Option Refusal
refusal known plan u = or_stateful (reserved_name u) (stateful known plan u)
