-- Parts of the tree that were read, with their places, numbers and depths, in lists that grow at their end.
use Rattle.std.specs.Prelude.{ℕ, suc, ◌+◌, max, Bool, true, false, ◌||◌, List, [], ◌∷◌, ◌++◌, Option}
use Rattle.c_tree.specs.declared.operator.At.{At}
use Rattle.c_tree.specs.Tok.{Word}
use Rattle.c_tree.specs.Marked as u
use Rattle.c_tree.specs.Marked.{Expr, Exprs, MaybeExpr, Specs, MaybeFields, Fields, Declarator, Declarators, MaybeDeclarator, MaybeEnumerators, Enumerators, Params, Init, Inits, Declaration, Stmt, BlockItems, Attribute, Argument}
use Rattle.c_tree.specs.Wf.{is_specifier}
use Rattle.c_reader.specs.Parts.{is_typedef}

-- the node with this number from one byte to another
abbrev pub mark : ℕ → ℕ → ℕ → At
mark from to n = record { span = record { start = from; end = to }; id = n }

-- ---- depths

-- a node that is open: where it begins, how many nodes hold what stands in it, itself included, and the greatest depth of its parts so far
pub record Open : Type 0 where
  pub from : ℕ
  pub level : ℕ
  pub deep : ℕ

-- a part that was read: where it begins, and its depth
pub record Had : Type 0 where
  pub from : ℕ
  pub deep : ℕ

-- a node that begins at this byte, where so many nodes are open
abbrev pub opens : ℕ → ℕ → Open
opens level from = record { from = from; level = suc level; deep = 0 }

-- a node whose first part was read
abbrev pub takes : ℕ → Had → Open
takes level h = record { from = h.from; level = suc level; deep = h.deep }

-- a part of depth d more
abbrev pub with_part : Open → ℕ → Open
with_part o d = record { from = o.from; level = o.level; deep = max o.deep d }

-- the depth of the whole node, where its last part has depth d
abbrev pub whole : Open → ℕ → ℕ
whole o d = suc (max o.deep d)

abbrev pub closed : Open → ℕ → Had
closed o d = record { from = o.from; deep = whole o d }

-- a node of one token
abbrev pub leaf : ℕ → Had
leaf from = record { from = from; deep = 1 }

-- a node around this part, which has no other
abbrev pub over : Had → Had
over h = record { from = h.from; deep = suc h.deep }

-- no unit that has this node, with its parts so far, is less deep
abbrev pub reach : Open → ℕ
reach o = o.level + o.deep

-- ---- parts

pub data Spec : Type 0 where
  keyword : Word → Spec
  typedef_name : List ℕ → Spec
  attribute : Attribute → Spec
  records : At → Bool → Option (List ℕ) → MaybeFields → Spec
  enums : At → Option (List ℕ) → MaybeEnumerators → Spec

pub record Field : Type 0 where
  pub at : At
  pub specs : Specs
  pub declarators : Declarators

pub record Enumerator : Type 0 where
  pub at : At
  pub name : List ℕ
  pub value : MaybeExpr

pub record Param : Type 0 where
  pub at : At
  pub specs : Specs
  pub declarator : MaybeDeclarator

pub data BlockItem : Type 0 where
  declared : Declaration → BlockItem
  statement : Stmt → BlockItem

-- ---- the tree's own lists

abbrev pub exprs_of : List Expr → Exprs
exprs_of [] = u.no_exprs
exprs_of (a ∷ xs) = u.expr a (exprs_of xs)

abbrev pub with_spec : Spec → Specs → Specs
with_spec (keyword w) ss = u.Keyword w ss
with_spec (typedef_name n) ss = u.Typedef n ss
with_spec (attribute a) ss = u.attribute a ss
with_spec (records at is_union tag b) ss = u.Record at is_union tag b ss
with_spec (enums at tag b) ss = u.Enum at tag b ss

abbrev pub specs_of : List Spec → Specs
specs_of [] = u.no_specs
specs_of (s ∷ ss) = with_spec s (specs_of ss)

abbrev pub fields_of : List Field → Fields
fields_of [] = u.no_fields
fields_of (f ∷ fs) = u.Field f.at f.specs f.declarators (fields_of fs)

abbrev pub declarators_of : List Declarator → Declarators
declarators_of [] = u.no_declarators
declarators_of (d ∷ ds) = u.declarator d (declarators_of ds)

abbrev pub enumerators_of : List Enumerator → Enumerators
enumerators_of [] = u.no_enumerators
enumerators_of (e ∷ es) = u.Enumerator e.at e.name e.value (enumerators_of es)

abbrev pub params_of : List Param → Params
params_of [] = u.no_params
params_of (p ∷ ps) = u.Param p.at p.specs p.declarator (params_of ps)

abbrev pub inits_of : List Init → Inits
inits_of [] = u.no_inits
inits_of (i ∷ is) = u.init i (inits_of is)

abbrev pub with_item : BlockItem → BlockItems → BlockItems
with_item (declared d) is = u.declared d is
with_item (statement s) is = u.statement s is

abbrev pub items_of : List BlockItem → BlockItems
items_of [] = u.no_items
items_of (i ∷ is) = with_item i (items_of is)

-- ---- an argument of an attribute, which ends where the next token is no literal of it

pub data ArgumentRead : Type 0 where
  number_read : List ℕ → ArgumentRead
  text_read : List (List ℕ) → ArgumentRead

abbrev pub argument_of : At → ArgumentRead → Argument
argument_of at (number_read v) = u.NumberArgument at v
argument_of at (text_read vs) = u.TextArgument at vs

-- ---- specs so far

-- the node that they begin, whether a type specifier is among them, and whether they make typedef names
pub record SpecsRead : Type 0 where
  pub node : Open
  pub specs : List Spec
  pub seen : Bool
  pub typedef : Bool

abbrev pub no_specs : Open → SpecsRead
no_specs o = record { node = o; specs = []; seen = false; typedef = false }

abbrev pub add_keyword : SpecsRead → Word → SpecsRead
add_keyword ss w = record { node = ss.node; specs = ss.specs ++ keyword w ∷ []; seen = ss.seen || is_specifier w; typedef = ss.typedef || is_typedef w }

-- a typedef name, a record or an enum, of depth d
abbrev pub add_type : SpecsRead → ℕ → Spec → SpecsRead
add_type ss d x = record { node = with_part ss.node d; specs = ss.specs ++ x ∷ []; seen = true; typedef = ss.typedef }

abbrev pub add_attribute : SpecsRead → ℕ → Attribute → SpecsRead
add_attribute ss d a = record { node = with_part ss.node d; specs = ss.specs ++ attribute a ∷ []; seen = ss.seen; typedef = ss.typedef }
