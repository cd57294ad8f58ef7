-- Parts of the tree that were read, in lists that grow at their end.
use Rattle.std.specs.Prelude.{ℕ, Bool, true, false, ◌||◌, List, [], ◌∷◌, ◌++◌, Option}
use Rattle.c_tree.specs.Tok.{Word, KTypedef}
use Rattle.c_tree.specs.Tree as u
use Rattle.c_tree.specs.Tree.{Expr, Exprs, MaybeExpr, Specs, MaybeFields, Fields, Declarator, Declarators, MaybeDeclarator, MaybeEnumerators, Enumerators, Params, Init, Inits, Declaration, Stmt, BlockItems, Entry}
use Rattle.c_tree.specs.Wf.{is_specifier}

pub data Spec : Type 0 where
  keyword : Word → Spec
  typedef_name : List ℕ → Spec
  attribute : List Entry → Spec
  records : Bool → Option (List ℕ) → MaybeFields → Spec
  enums : Option (List ℕ) → MaybeEnumerators → Spec

pub record Field : Type 0 where
  pub specs : Specs
  pub declarators : Declarators

pub record Enumerator : Type 0 where
  pub name : List ℕ
  pub value : MaybeExpr

pub record Param : Type 0 where
  pub specs : Specs
  pub declarator : MaybeDeclarator

pub data BlockItem : Type 0 where
  declared : Declaration → BlockItem
  statement : Stmt → BlockItem

-- ---- the tree's own lists

abbrev pub exprs_of : List Expr → Exprs
exprs_of [] = u.no_exprs
exprs_of (a ∷ xs) = u.expr a (exprs_of xs)

abbrev pub with_spec : Spec → Specs → Specs
with_spec (keyword w) ss = u.Keyword w ss
with_spec (typedef_name n) ss = u.Typedef n ss
with_spec (attribute es) ss = u.Attribute es ss
with_spec (records is_union tag b) ss = u.Record is_union tag b ss
with_spec (enums tag b) ss = u.Enum tag b ss

abbrev pub specs_of : List Spec → Specs
specs_of [] = u.no_specs
specs_of (s ∷ ss) = with_spec s (specs_of ss)

abbrev pub fields_of : List Field → Fields
fields_of [] = u.no_fields
fields_of (f ∷ fs) = u.Field f.specs f.declarators (fields_of fs)

abbrev pub declarators_of : List Declarator → Declarators
declarators_of [] = u.no_declarators
declarators_of (d ∷ ds) = u.declarator d (declarators_of ds)

abbrev pub enumerators_of : List Enumerator → Enumerators
enumerators_of [] = u.no_enumerators
enumerators_of (e ∷ es) = u.Enumerator e.name e.value (enumerators_of es)

abbrev pub params_of : List Param → Params
params_of [] = u.no_params
params_of (p ∷ ps) = u.Param p.specs p.declarator (params_of ps)

abbrev pub inits_of : List Init → Inits
inits_of [] = u.no_inits
inits_of (i ∷ is) = u.init i (inits_of is)

abbrev pub with_item : BlockItem → BlockItems → BlockItems
with_item (declared d) is = u.declared d is
with_item (statement s) is = u.statement s is

abbrev pub items_of : List BlockItem → BlockItems
items_of [] = u.no_items
items_of (i ∷ is) = with_item i (items_of is)

-- ---- specs so far

-- whether a type specifier is among them, and whether they make typedef names
pub record SpecsRead : Type 0 where
  pub specs : List Spec
  pub seen : Bool
  pub typedef : Bool

abbrev pub no_specs : SpecsRead
no_specs = record { specs = []; seen = false; typedef = false }

abbrev pub is_typedef : Word → Bool
is_typedef KTypedef = true
is_typedef _ = false

abbrev pub add_keyword : SpecsRead → Word → SpecsRead
add_keyword s w = record { specs = s.specs ++ keyword w ∷ []; seen = s.seen || is_specifier w; typedef = s.typedef || is_typedef w }

-- a typedef name, a record or an enum
abbrev pub add_type : SpecsRead → Spec → SpecsRead
add_type s x = record { specs = s.specs ++ x ∷ []; seen = true; typedef = s.typedef }

abbrev pub add_attribute : SpecsRead → List Entry → SpecsRead
add_attribute s es = record { specs = s.specs ++ attribute es ∷ []; seen = s.seen; typedef = s.typedef }
