-- A table of types: each term's parts are numbers of earlier terms.
use Rattle.std.specs.Prelude.{◌≡◌, ℕ, suc, ◌<◌, ◌≤◌, List, [], ◌∷◌, ◌++◌, length, map, take, slice_get, slice_index_or, slice_set, Option, Some, All}
use Rattle.c_types.specs.CTypes as c
use Rattle.c_types.specs.CTypes.{CType, CTypes, no_types, one_type}
use Rattle.c_types.specs.Records.{MemberOf, Records, laid_out, is_union_at}
use Rattle.c_types.specs.declared.records.Layout.{Layout}
use Rattle.c_types.specs.declared.terms.TypeId.{TypeId}
use Rattle.c_types.specs.declared.terms.Term.{Term}
use Rattle.c_types.specs.declared.terms.Term.TheVariants as m
use Rattle.c_types.specs.declared.records.Head.{Head}
use Rattle.c_types.specs.declared.records.Member.{Member}

-- by number: the terms; the sorts and names of records, the layouts of those that are finished, and their members; the
-- names of enumerations
pub record Table : Type 0 where
  pub terms : List Term
  pub records : List Head
  pub layouts : List (Option Layout)
  pub members : List (List Member)
  pub enums : List (List ℕ)

-- the type with a number
abbrev pub type_in : List CType → ℕ → CType
type_in ts i = slice_index_or ts i c.Void

abbrev pub types_in : List CType → List TypeId → CTypes
types_in ts [] = no_types
types_in ts (p ∷ ps) = one_type (type_in ts p.0) (types_in ts ps)

-- a term as a type, where the terms before it are these types
abbrev pub meaning : List CType → Term → CType
meaning ts m.Void = c.Void
meaning ts (m.Int kind) = c.Int kind
meaning ts (m.Enum e) = c.Enum e
meaning ts (m.Pointer t) = c.Pointer (type_in ts t.0)
meaning ts (m.Array t n) = c.Array (type_in ts t.0) n
meaning ts (m.Flexible t) = c.Flexible (type_in ts t.0)
meaning ts (m.Function t ps) = c.Function (type_in ts t.0) (types_in ts ps)
meaning ts (m.Record k) = c.Record k
meaning ts (m.Named n t) = c.Named n (type_in ts t.0)
meaning ts (m.Qualified q t) = c.Qualified q (type_in ts t.0)

-- the types of all terms, by number
abbrev pub shown_from : List CType → List Term → List CType
shown_from done [] = done
shown_from done (t ∷ ts) = shown_from (done ++ meaning done t ∷ []) ts

unfoldable pub shown : List Term → List CType
shown ts = shown_from [] ts

unfoldable pub type_at : List Term → ℕ → CType
type_at ts i = type_in (shown ts) i

-- the types of a record's members
abbrev pub member_types : List Term → List Member → List CType
member_types ts ms = map (λ m. type_at ts m.ty.0) ms

abbrev pub types_at : List Term → List TypeId → CTypes
types_at ts [] = no_types
types_at ts (p ∷ ps) = one_type (type_at ts p.0) (types_at ts ps)

-- a term as a type over a table
abbrev pub term_type : List Term → Term → CType
term_type ts m.Void = c.Void
term_type ts (m.Int kind) = c.Int kind
term_type ts (m.Enum e) = c.Enum e
term_type ts (m.Pointer t) = c.Pointer (type_at ts t.0)
term_type ts (m.Array t n) = c.Array (type_at ts t.0) n
term_type ts (m.Flexible t) = c.Flexible (type_at ts t.0)
term_type ts (m.Function t ps) = c.Function (type_at ts t.0) (types_at ts ps)
term_type ts (m.Record k) = c.Record k
term_type ts (m.Named n t) = c.Named n (type_at ts t.0)
term_type ts (m.Qualified q t) = c.Qualified q (type_at ts t.0)

-- the numbers in a list are below n
abbrev pub AllBelow : ℕ → List TypeId → Type 0
AllBelow n [] = Unit {0}
AllBelow n (p ∷ ps) = (p.0 < n) × AllBelow n ps

-- the parts of a term have numbers below n
abbrev pub PartsBelow : ℕ → Term → Type 0
PartsBelow n m.Void = Unit {0}
PartsBelow n (m.Int kind) = Unit {0}
PartsBelow n (m.Enum e) = Unit {0}
PartsBelow n (m.Pointer t) = t.0 < n
PartsBelow n (m.Array t k) = t.0 < n
PartsBelow n (m.Flexible t) = t.0 < n
PartsBelow n (m.Function t ps) = (t.0 < n) × AllBelow n ps
PartsBelow n (m.Record k) = Unit {0}
PartsBelow n (m.Named s t) = t.0 < n
PartsBelow n (m.Qualified q t) = t.0 < n

-- a term names records and enumerations that are declared, and the qualifiers const 1, volatile 2 and restrict 4
abbrev pub NumbersBelow : (records enums : ℕ) → Term → Type 0
NumbersBelow records enums (m.Record k) = k < records
NumbersBelow records enums (m.Enum e) = e < enums
NumbersBelow records enums (m.Qualified q t) = q < 8
NumbersBelow records enums m.Void = Unit {0}
NumbersBelow records enums (m.Int kind) = Unit {0}
NumbersBelow records enums (m.Pointer t) = Unit {0}
NumbersBelow records enums (m.Array t n) = Unit {0}
NumbersBelow records enums (m.Flexible t) = Unit {0}
NumbersBelow records enums (m.Function t ps) = Unit {0}
NumbersBelow records enums (m.Named n t) = Unit {0}

abbrev pub AreOrderedFrom : ℕ → List Term → Type 0
AreOrderedFrom k [] = Unit {0}
AreOrderedFrom k (t ∷ ts) = PartsBelow k t × AreOrderedFrom (suc k) ts

abbrev pub AreOrdered : List Term → Type 0
AreOrdered ts = AreOrderedFrom 0 ts

-- a table that grows keeps its terms, and the type of each number
pub record Grows (old new : List Term) : Type 0 where
  pub longer : length old ≤ length new
  pub front : take (length old) new ≡ old
  pub same : (i : ℕ) → i < length old → type_at new i ≡ type_at old i

-- a table with the terms of another one in front, and the same records and enumerations
pub record IsLonger (old new : Table) : Type 0 where
  pub grows : Grows old.terms new.terms
  pub records : new.records ≡ old.records
  pub layouts : new.layouts ≡ old.layouts
  pub members : new.members ≡ old.members
  pub enums : new.enums ≡ old.enums

-- the members' types have numbers below n
abbrev pub MembersBelow : ℕ → List Member → Type 0
MembersBelow n ms = All (λ m. m.ty.0 < n) ms

-- the number of a record type
abbrev pub number_of : CType → ℕ
number_of (c.Record k) = k
number_of c.Void = 0
number_of (c.Int kind) = 0
number_of (c.Enum e) = 0
number_of (c.Pointer t) = 0
number_of (c.Array t n) = 0
number_of (c.Flexible t) = 0
number_of (c.Function t ps) = 0
number_of (c.Named n t) = 0
number_of (c.Qualified q t) = 0

-- the table with a record finished
abbrev pub finished : Table → ℕ → List Member → Table
finished t k ms = record t {
  layouts = slice_set t.layouts k (Some (laid_out t.layouts (is_union_at t.records k) (member_types t.terms ms)));
  members = slice_set t.members k ms;
}

-- ---- the records, with their members' types as trees

abbrev pub member_of : List Term → Member → MemberOf
member_of ts m = record { name = m.name; type = type_at ts m.ty.0 }

abbrev pub records_of : Table → Records
records_of t = record { heads = t.records; layouts = t.layouts; members = map (map (member_of t.terms)) t.members }

-- the types of all members have numbers below n
abbrev pub AllMembersBelow : ℕ → List (List Member) → Type 0
AllMembersBelow n mss = (k : ℕ) (ms : List Member) → slice_get mss k ≡ Some ms → MembersBelow n ms
