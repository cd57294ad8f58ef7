-- Whether a type contains a pointer.
use Rattle.std.specs.Prelude.{ℕ, Bool, true, false, ◌||◌, List, nat_eq, codes, Option, unwrap_or}
use Rattle.std.specs.Option.{option_map}
use Rattle.std.specs.Cmp.Lexicographic.{pointwise}
use Rattle.std.specs.List.{list_any}
use Rattle.c_types.specs.CTypes.{CType, Void, Int, Enum, Pointer, Array, Flexible, Function, Record, Named, Qualified}
use Rattle.c_types.specs.Layout.{layout_at}
use Rattle.c_types.specs.declared.records.Layout.{Layout}

-- the name of the integer type that holds a pointer (7.20.1.4)
abbrev pub is_uintptr : List ℕ → Bool
is_uintptr name = pointwise nat_eq name (codes "uintptr_t")

-- it is a pointer; or is written through the typedef name uintptr_t, also behind another typedef name; or is an array of
-- such an element; or is a finished record with such a member
abbrev pub contains_pointer : List (Option Layout) → CType → Bool
contains_pointer ls (Pointer t) = true
contains_pointer ls (Named n t) = is_uintptr n || contains_pointer ls t
contains_pointer ls (Array t n) = contains_pointer ls t
contains_pointer ls (Flexible t) = contains_pointer ls t
contains_pointer ls (Qualified q t) = contains_pointer ls t
contains_pointer ls (Record k) = unwrap_or (option_map (λ l. l.has_pointer) (layout_at ls k)) false
contains_pointer ls Void = false
contains_pointer ls (Int k) = false
contains_pointer ls (Enum e) = false
contains_pointer ls (Function r ps) = false

abbrev pub any_contains_pointer : List (Option Layout) → List CType → Bool
any_contains_pointer ls ts = list_any (contains_pointer ls) ts
