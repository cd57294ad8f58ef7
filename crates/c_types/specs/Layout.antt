-- Sizes and alignments in bytes in the LP64 data model (ISO/IEC 9899:2018, 6.2.8, 6.5.3.4, 6.7.2.1).
use Rattle.std.specs.Prelude.{ℕ, ◌+◌, ◌-◌, ◌*◌, ◌/◌, max, Bool, true, false, ◌||◌, ◌&&◌, if◌then◌else◌, List, [], ◌∷◌, Option, Some, None, is_some, unwrap_or, option_and_then, slice_get}
use Rattle.std.specs.Option.{option_map}
use Rattle.num_ops.specs.declared.kinds.IntKind.{IntKind}
use Rattle.num_ops.specs.Kinds.{width}
use Rattle.c_types.specs.CTypes.{CType, Void, Int, Enum, Pointer, Array, Flexible, Function, Record, Named, Qualified, is_flexible}
use Rattle.c_types.specs.declared.records.Layout.{Layout}

-- the layout of a record by its number, where it is finished. A record's membels have sizes when it is finished, so the records that it
-- holds by value were finished before it: no record holds itself, and each layout comes from earlier ones
abbrev pub layout_at : List (Option Layout) → ℕ → Option Layout
layout_at layouts k = option_and_then (λ o. o) (slice_get layouts k)

-- an integer type has the bytes that its bits need, and `_Bool` one
abbrev pub int_size : IntKind → ℕ
int_size kind = (width kind + 7) / 8

-- `sizeof`; void, a function, an array without a length and an unfinished record have no size
abbrev pub size : List (Option Layout) → CType → Option ℕ
size ls (Int kind) = Some (int_size kind)
size ls (Enum e) = Some 4
size ls (Pointer t) = Some 8
size ls (Array t n) = option_map (λ s. n * s) (size ls t)
size ls (Record k) = option_map (λ l. l.size) (layout_at ls k)
size ls (Named n t) = size ls t
size ls (Qualified q t) = size ls t
size ls Void = None
size ls (Flexible t) = None
size ls (Function r ps) = None

-- `_Alignof`; void, a function and an unfinished record have no alignment
abbrev pub align : List (Option Layout) → CType → Option ℕ
align ls (Int kind) = Some (int_size kind)
align ls (Enum e) = Some 4
align ls (Pointer t) = Some 8
align ls (Array t n) = align ls t
align ls (Flexible t) = align ls t
align ls (Record k) = option_map (λ l. l.align) (layout_at ls k)
align ls (Named n t) = align ls t
align ls (Qualified q t) = align ls t
align ls Void = None
align ls (Function r ps) = None

-- the bytes that a member adds: none where it is an array without a length
abbrev pub bytes : List (Option Layout) → CType → ℕ
bytes ls t = unwrap_or (size ls t) 0

abbrev pub alignment : List (Option Layout) → CType → ℕ
alignment ls t = max 1 (unwrap_or (align ls t) 1)

-- the least multiple of an alignment that is not below a place
abbrev pub rounded : ℕ → ℕ → ℕ
rounded at to = (at + (to - 1)) / to * to

-- where a member stands behind those that reach to `at`: at 0 in a union, else at the next multiple of its alignment
abbrev pub place : List (Option Layout) → Bool → ℕ → CType → ℕ
place ls is_union at t = if is_union then 0 else rounded at (alignment ls t)

-- how far the membels reach with this one
abbrev pub reach : List (Option Layout) → Bool → ℕ → CType → ℕ
reach ls is_union at t = max at (place ls is_union at t + bytes ls t)

-- where the membels of a record stand
abbrev pub offsets : List (Option Layout) → Bool → ℕ → List CType → List ℕ
offsets ls is_union at [] = []
offsets ls is_union at (t ∷ ts) = place ls is_union at t ∷ offsets ls is_union (reach ls is_union at t) ts

abbrev pub end_of : List (Option Layout) → Bool → ℕ → List CType → ℕ
end_of ls is_union at [] = at
end_of ls is_union at (t ∷ ts) = end_of ls is_union (reach ls is_union at t) ts

abbrev pub greatest_alignment : List (Option Layout) → ℕ → List CType → ℕ
greatest_alignment ls most [] = most
greatest_alignment ls most (t ∷ ts) = greatest_alignment ls (max most (alignment ls t)) ts

-- a record's size is rounded up to the greatest alignment of its members
abbrev pub record_size : List (Option Layout) → Bool → List CType → ℕ
record_size ls is_union ts = rounded (end_of ls is_union 0 ts) (greatest_alignment ls 1 ts)

abbrev pub is_empty : List CType → Bool
is_empty [] = true
is_empty (t ∷ ts) = false

-- whether each member has a size, the last one also where it is an array without a length
abbrev pub are_sized : List (Option Layout) → List CType → Bool
are_sized ls [] = true
are_sized ls (t ∷ ts) = (is_some (size ls t) || (is_empty ts && is_flexible t)) && are_sized ls ts
