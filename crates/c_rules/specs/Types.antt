-- What the rules ask of a type (ISO/IEC 9899:2018, 6.2.5, 6.2.7, 6.3.2.1 and 6.7.3).
use Rattle.std.specs.Prelude.{ℕ, bit_or, ◌==◌, Bool, true, false, ◌||◌, if◌then◌else◌}
use Rattle.num_ops.specs.declared.kinds.IntKind.{IntKind}
use Rattle.num_ops.specs.declared.kinds.IntKind.TheVariants as k
use Rattle.c_types.specs.CTypes.{CType, Void, Int, Enum, Pointer, Array, Flexible, Function, Record, Named, Qualified}
use Rattle.c_types.specs.Canonical.{with_qualifiers}
use Rattle.c_types.specs.Plain.{plain, qualifiers_met}

-- ---- parts of a type

-- an array becomes the pointer to its first element, whose qualifiers q are those of the array; a function the pointer to it
-- (6.3.2.1); `whole` is the type as written
abbrev pub decayed_from : CType → ℕ → CType → CType
decayed_from whole q (Array t n) = Pointer (with_qualifiers q t)
decayed_from whole q (Flexible t) = Pointer (with_qualifiers q t)
decayed_from whole q (Function r ps) = Pointer whole
decayed_from whole q (Named n t) = decayed_from whole q t
decayed_from whole q (Qualified p t) = decayed_from whole (bit_or p q) t
decayed_from whole q Void = whole
decayed_from whole q (Int k) = whole
decayed_from whole q (Enum e) = whole
decayed_from whole q (Pointer t) = whole
decayed_from whole q (Record k) = whole

abbrev pub decayed : CType → CType
decayed t = decayed_from t 0 t

-- the type of a value, without outer typedef names and qualifiers
abbrev pub settled : CType → CType
settled t = plain (decayed t)

abbrev pub pointee : CType → CType
pointee (Pointer t) = t
pointee t = t

abbrev pub element : CType → CType
element (Array t n) = t
element (Flexible t) = t
element t = t

-- ---- sorts of types

abbrev pub is_void : CType → Bool
is_void Void = true
is_void t = false

-- an integer type (6.2.5, paragraph 17)
abbrev pub is_integer : CType → Bool
is_integer (Int k) = true
is_integer (Enum e) = true
is_integer t = false

abbrev pub is_bool : CType → Bool
is_bool (Int k.Bool) = true
is_bool t = false

abbrev pub is_pointer : CType → Bool
is_pointer (Pointer t) = true
is_pointer t = false

abbrev pub is_array : CType → Bool
is_array (Array t n) = true
is_array (Flexible t) = true
is_array t = false

abbrev pub is_record : CType → Bool
is_record (Record k) = true
is_record t = false

-- 6.2.5, paragraph 21
abbrev pub is_scalar : CType → Bool
is_scalar t = is_integer t || is_pointer t

-- char, signed char or unsigned char (6.2.5, paragraph 15)
abbrev pub is_char_kind : IntKind → Bool
is_char_kind k.Char = true
is_char_kind k.SChar = true
is_char_kind k.UChar = true
is_char_kind k = false

abbrev pub is_char : CType → Bool
is_char (Int k) = is_char_kind k
is_char t = false

-- the kind of an integer type; an enumeration's is int
abbrev pub kind_of : CType → IntKind
kind_of (Int k) = k
kind_of t = k.Int

-- ---- qualifiers of what is pointed to

-- the qualifiers of a type that are its own and not its elements' (6.7.3, paragraph 9)
abbrev pub outer_qualifiers : CType → ℕ
outer_qualifiers t = if is_array (plain t) then 0 else qualifiers_met t

-- whether t has each qualifier of u, where both are pointed to
abbrev pub keeps_qualifiers : CType → CType → Bool
keeps_qualifiers t u = bit_or (outer_qualifiers t) (outer_qualifiers u) == outer_qualifiers t
