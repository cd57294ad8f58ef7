-- Whether a type is const or holds what is const (ISO/IEC 9899:2018, 6.3.2.1, paragraph 1): then no assignment changes it.
use Rattle.std.specs.Prelude.{ℕ, Bool, true, false, ◌||◌, List, Option, Some, None, unwrap_or}
use Rattle.std.specs.Option.{option_map}
use Rattle.std.specs.List.{list_any}
use Rattle.c_types.specs.CTypes.{CType, Void, Int, Enum, Pointer, Array, Flexible, Function, Record, Named, Qualified, record_of}
use Rattle.c_types.specs.Layout.{layout_at}
use Rattle.c_types.specs.Plain.{has_const}
use Rattle.c_types.specs.declared.records.Layout.{Layout}

-- it is qualified by const, or is an array of such elements (6.7.3, paragraph 9)
abbrev pub is_const : CType → Bool
is_const (Qualified q t) = has_const q || is_const t
is_const (Named n t) = is_const t
is_const (Array t n) = is_const t
is_const (Flexible t) = is_const t
is_const Void = false
is_const (Int k) = false
is_const (Enum e) = false
is_const (Pointer t) = false
is_const (Function r ps) = false
is_const (Record k) = false

-- the record that it is, or that the elements of an array are
abbrev pub record_held : CType → Option ℕ
record_held (Qualified q t) = record_held t
record_held (Named n t) = record_held t
record_held (Array t n) = record_held t
record_held (Flexible t) = record_held t
record_held (Record k) = Some k
record_held Void = None
record_held (Int k) = None
record_held (Enum e) = None
record_held (Pointer t) = None
record_held (Function r ps) = None

-- whether a finished record has a member that is const or holds what is const
abbrev pub const_member_by : List (Option Layout) → Option ℕ → Bool
const_member_by ls None = false
const_member_by ls (Some k) = unwrap_or (option_map (λ l. l.has_const) (layout_at ls k)) false

abbrev pub holds_const : List (Option Layout) → CType → Bool
holds_const ls t = is_const t || const_member_by ls (record_held t)

abbrev pub any_holds_const : List (Option Layout) → List CType → Bool
any_holds_const ls ts = list_any (holds_const ls) ts

-- whether a record type, also behind typedef names and qualifiers, has a const member at any depth
abbrev pub has_const_member : List (Option Layout) → CType → Bool
has_const_member ls t = const_member_by ls (record_of t)
