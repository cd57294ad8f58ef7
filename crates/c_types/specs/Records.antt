-- Structs and unions by their numbers: sort and name, layout and members (ISO/IEC 9899:2018, 6.7.2.1). Types are trees here.
use Rattle.std.specs.Prelude.{ℕ, ◌^◌, ◌*◌, nat_le, Bool, true, false, if◌then◌else◌, is_some, List, [], ◌∷◌, ◌++◌, map, slice_get, slice_set, Option, Some, None, option_and_then, unwrap_or}
use Rattle.std.specs.Option.{option_map}
use Rattle.name_places.specs.Placed.{place_of}
use Rattle.c_types.specs.CTypes.{CType, Void, Int, Enum, Pointer, Array, Flexible, Function, Record, Named, Qualified, record_of}
use Rattle.c_types.specs.Consts.{any_holds_const}
use Rattle.c_types.specs.Layout.{size, record_size, greatest_alignment, offsets, are_sized, layout_at}
use Rattle.c_types.specs.Pointers.{any_contains_pointer}
use Rattle.c_types.specs.declared.records.Head.{Head}
use Rattle.c_types.specs.declared.records.Layout.{Layout}
use Rattle.c_types.specs.declared.terms.TypeEnd.{TypeEnd}
use Rattle.c_types.specs.declared.terms.TypeEnd.TheVariants as end

-- the bytes from which on a type is too large
abbrev pub limit : ℕ
limit = 2 ^ 28

-- why a type can't be made: an array of elements without a size, or one of 2^28 bytes or more
abbrev pub array_refusal : ℕ → Option ℕ → Option TypeEnd
array_refusal n None = Some end.Incomplete
array_refusal n (Some s) = if nat_le limit (n * s) then Some end.TooLarge else None

abbrev pub refusal : List (Option Layout) → CType → Option TypeEnd
refusal ls (Array t n) = array_refusal n (size ls t)
refusal ls (Flexible t) = if is_some (size ls t) then None else Some end.Incomplete
refusal ls Void = None
refusal ls (Int kind) = None
refusal ls (Enum e) = None
refusal ls (Pointer t) = None
refusal ls (Function t ps) = None
refusal ls (Record k) = None
refusal ls (Named n t) = None
refusal ls (Qualified q t) = None

-- why a record can't be finished with members of these types: one has no size, or they have 2^28 bytes or more
abbrev pub record_refusal : List (Option Layout) → Bool → List CType → Option TypeEnd
record_refusal ls is_union ts =
    if are_sized ls ts
    then (if nat_le limit (record_size ls is_union ts) then Some end.TooLarge else None)
    else Some end.Incomplete

-- the layout that members of these types give
abbrev pub laid_out : List (Option Layout) → Bool → List CType → Layout
laid_out ls is_union ts = record {
  size = record_size ls is_union ts;
  align = greatest_alignment ls 1 ts;
  offsets = offsets ls is_union 0 ts;
  has_pointer = any_contains_pointer ls ts;
  has_const = any_holds_const ls ts;
}

-- a member; one without a name has the empty one
pub record MemberOf : Type 0 where
  pub name : List ℕ
  pub type : CType

-- by number: the sorts and names, the layouts of those that are finished, and their members
pub record Records : Type 0 where
  pub heads : List Head
  pub layouts : List (Option Layout)
  pub members : List (List MemberOf)

-- ---- declaring and finishing

-- one more, which is not finished
abbrev pub with_declared : Bool → List ℕ → Records → Records
with_declared is_union name r = record {
  heads = r.heads ++ record { is_union = is_union; name = name } ∷ [];
  layouts = r.layouts ++ None ∷ [];
  members = r.members ++ [] ∷ [];
}

abbrev pub is_union_at : List Head → ℕ → Bool
is_union_at hs k = unwrap_or (option_map (λ h. h.is_union) (slice_get hs k)) false

-- record k with its members
abbrev pub with_finished : ℕ → List MemberOf → Records → Records
with_finished k ms r = record r {
  layouts = slice_set r.layouts k (Some (laid_out r.layouts (is_union_at r.heads k) (map (λ m. m.type) ms)));
  members = slice_set r.members k ms;
}

-- ---- questions on a type, also behind typedef names and qualifiers

-- whether it is a finished record
abbrev pub finished_by : List (Option Layout) → Option ℕ → Bool
finished_by ls None = false
finished_by ls (Some k) = is_some (layout_at ls k)

abbrev pub is_finished : List (Option Layout) → CType → Bool
is_finished ls t = finished_by ls (record_of t)

-- whether it is a union
abbrev pub is_union : List Head → CType → Bool
is_union hs t = unwrap_or (option_map (is_union_at hs) (record_of t)) false

-- the members of a record; another type has none, and an unfinished record has none
abbrev pub members_at : {A : Type 0} → List (List A) → ℕ → List A
members_at mss k = unwrap_or (slice_get mss k) []

abbrev pub members_of : {A : Type 0} → List (List A) → CType → List A
members_of mss t = unwrap_or (option_map (members_at mss) (record_of t)) []

-- the offset of the member at a place
abbrev pub offset_at : List (Option Layout) → CType → ℕ → ℕ
offset_at ls t i = unwrap_or (option_and_then (λ l. slice_get l.offsets i) (option_and_then (layout_at ls) (record_of t))) 0

-- whether it is, itself, a record that is declared and not finished
abbrev pub is_open_slot : Option (Option Layout) → Bool
is_open_slot None = false
is_open_slot (Some None) = true
is_open_slot (Some (Some b)) = false

abbrev pub is_open : List (Option Layout) → CType → Bool
is_open ls (Record k) = is_open_slot (slice_get ls k)
is_open ls Void = false
is_open ls (Int kind) = false
is_open ls (Enum e) = false
is_open ls (Pointer t) = false
is_open ls (Array t n) = false
is_open ls (Flexible t) = false
is_open ls (Function t ps) = false
is_open ls (Named n t) = false
is_open ls (Qualified q t) = false

-- ---- members by their names

-- the first one with the name
abbrev pub member_in : List ℕ → List MemberOf → Option MemberOf
member_in name ms = option_and_then (λ i. slice_get ms i) (place_of name (map (λ m. m.name) ms))
