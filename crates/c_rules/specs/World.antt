-- What is known at a point of a unit: the names and tags in scope (ISO/IEC 9899:2018, 6.2.1, 6.2.3), the records and
-- enumerations, and what was found of the nodes so far.
use Rattle.std.specs.Prelude.{ℕ, suc, pred, codes, decimal, ◌==◌, ◌||◌, Bool, true, false, List, [], ◌∷◌, ◌++◌, replicate, slice_get, slice_set, if◌then◌else◌, Option, Some, None, is_some, ℤ}
use Rattle.std.specs.List.{list_any}
use Rattle.c_tree.specs.Text.{same_text}
use Rattle.c_types.specs.CTypes.{CType, Void}
use Rattle.c_types.specs.Layout.{size}
use Rattle.c_types.specs.Records.{Records}
use Rattle.c_rules.specs.declared.known.Sort.{Sort}
use Rattle.c_rules.specs.declared.known.TagSort.{TagSort}
use Rattle.c_rules.specs.declared.known.Binding.{Binding}
use Rattle.c_rules.specs.declared.known.ConstantValue.{ConstantValue}

pub record Entry : Type 0 where
  pub name : List ℕ
  pub sort : Sort
  pub type : CType
  -- how many blocks hold its declaration
  pub depth : ℕ

pub record Tag : Type 0 where
  pub name : List ℕ
  pub sort : TagSort
  -- the number among the records, or among the enumerations
  pub number : ℕ

pub record EnumOf : Type 0 where
  pub name : List ℕ
  pub is_defined : Bool

-- an object or a parameter
pub record ObjectOf : Type 0 where
  -- with the length that its initialiser gives
  pub type : CType
  -- the place among the parameters of its declarator, or of an automatic object its place behind the parameters of its
  -- function, in the order of the text; none where it has static storage (6.2.4)
  pub local : Option ℕ
  -- in the unit
  pub is_defined : Bool

pub record FunctionOf : Type 0 where
  pub name : List ℕ
  -- that of the first declaration
  pub type : CType
  -- in the unit
  pub has_body : Bool

pub record World : Type 0 where
  -- the names in scope, the newest first, and how many blocks are open
  pub names : List Entry
  pub depth : ℕ
  -- a tag names one type in the whole unit
  pub tags : List Tag
  -- structs and unions by their numbers, with what they have once their bodies ended
  pub records : Records
  pub enums : List EnumOf
  -- how many records and enumerations have neither a tag nor a typedef name of their own
  pub unnamed : ℕ
  -- by their numbers: the objects and parameters, and the functions, the library's and the entry points too
  pub objects : List ObjectOf
  pub functions : List FunctionOf
  -- how many parameters and automatic objects the function has so far
  pub locals : ℕ
  -- the names of file scope that have had a body or an initialiser
  pub completed : List (List ℕ)
  -- the names that were declared as something else than a type, in whatever scope
  pub others : List (List ℕ)
  -- by the number of a node: the type of an expression, a type name or a declared name; the type to which an expression
  -- is converted as by assignment; what a name is bound to; the value of an integer or character constant, and of an expression
  -- that initialises a static scalar
  pub types : List (Option CType)
  pub targets : List (Option CType)
  pub bindings : List (Option Binding)
  pub constants : List (Option ConstantValue)

-- ---- names

-- what a name stands for: its newest declaration, which is the one in the innermost block that has one (6.2.1, paragraph 4)
abbrev pub find_in : List ℕ → List Entry → Option Entry
find_in n [] = None
find_in n (e ∷ es) = if same_text n e.name then Some e else find_in n es

abbrev pub find_name : List ℕ → World → Option Entry
find_name n w = find_in n w.names

abbrev pub stands_at : ℕ → Option Entry → Bool
stands_at depth None = false
stands_at depth (Some e) = e.depth == depth

-- whether the innermost block declares the name
abbrev pub is_here : World → List ℕ → Bool
is_here w n = stands_at w.depth (find_name n w)

-- whether no block is open but the file scope
abbrev pub is_file_scope : World → Bool
is_file_scope w = w.depth == 0

abbrev pub or_else : {A : Type 0} → Option A → Option A → Option A
or_else (Some a) b = Some a
or_else None b = b

abbrev pub find_tag : List ℕ → List Tag → Option Tag
find_tag n [] = None
find_tag n (t ∷ ts) = if same_text n t.name then Some t else find_tag n ts

-- the name is in scope from here on (6.2.1, paragraph 7)
abbrev pub with_name : List ℕ → Sort → CType → World → World
with_name n s t w = record w { names = record { name = n; sort = s; type = t; depth = w.depth } ∷ w.names }

-- a block begins, and ends: the names that it declared are gone
abbrev pub enter : World → World
enter w = record w { depth = suc w.depth }

abbrev pub names_left : ℕ → List Entry → List Entry
names_left depth [] = []
names_left depth (e ∷ es) = if e.depth == depth then names_left depth es else e ∷ es

-- the names that the block at this depth declared, the newest first
abbrev pub names_at : ℕ → List Entry → List Entry
names_at depth [] = []
names_at depth (e ∷ es) = if e.depth == depth then e ∷ names_at depth es else []

abbrev pub leave : World → World
leave w = record w { names = names_left w.depth w.names; depth = pred w.depth }

abbrev pub is_listed : List ℕ → List (List ℕ) → Bool
is_listed n ns = list_any (same_text n) ns

-- ---- records

abbrev pub size_in : World → CType → Option ℕ
size_in w t = size w.records.layouts t

-- 6.2.5, paragraph 1: the size of the type is known
abbrev pub is_complete : World → CType → Bool
is_complete w t = is_some (size_in w t)

-- the name by which a record or an enumeration is spelled: its tag, the typedef name declared with it, or its place among
-- those that have neither
abbrev pub has_name : Option (List ℕ) → Option (List ℕ) → Bool
has_name None None = false
has_name None (Some n) = true
has_name (Some n) own = true

abbrev pub spelled_name : ℕ → Option (List ℕ) → Option (List ℕ) → List ℕ
spelled_name k (Some n) own = n
spelled_name k None (Some n) = n
spelled_name k None None = codes "(unnamed #" ++ (decimal k ++ codes ")")

abbrev pub count_unnamed : Option (List ℕ) → Option (List ℕ) → World → World
count_unnamed tag own w = if has_name tag own then w else record w { unnamed = suc w.unnamed }

-- ---- what was found of a node

abbrev pub note_type : ℕ → CType → World → World
note_type id t w = record w { types = slice_set w.types id (Some t) }

abbrev pub note_target : ℕ → CType → World → World
note_target id t w = record w { targets = slice_set w.targets id (Some t) }

abbrev pub note_binding : ℕ → Binding → World → World
note_binding id b w = record w { bindings = slice_set w.bindings id (Some b) }

abbrev pub note_constant : ℕ → Option ConstantValue → World → World
note_constant id c w = record w { constants = slice_set w.constants id c }

abbrev pub without_type : Option ℕ → ObjectOf
without_type local = record { type = Void; local = local; is_defined = false }

-- `is_fixed`: whether it has static storage and is defined in the unit
abbrev pub note_object : ℕ → CType → (is_fixed : Bool) → World → World
note_object number t is_fixed w = of_slot (slice_get w.objects number)
  where
    of_slot : Option ObjectOf → World
    of_slot None = w
    of_slot (Some o) =
        record w { objects = slice_set w.objects number (record { type = t; local = o.local; is_defined = is_fixed || is_some o.local }) }

-- what is known before a unit of so many nodes
abbrev pub start : ℕ → World
start nodes = record {
  names = [];
  depth = 0;
  tags = [];
  records = record { heads = []; layouts = []; members = [] };
  enums = [];
  unnamed = 0;
  objects = [];
  functions = [];
  locals = 0;
  completed = [];
  others = [];
  types = replicate nodes None;
  targets = replicate nodes None;
  bindings = replicate nodes None;
  constants = replicate nodes None;
}
