-- A type without its outer typedef names and qualifiers, and its parts (ISO/IEC 9899:2018, 6.2.5 and 6.7.3).
use Rattle.std.specs.Prelude.{ℕ, suc, bit_or, bit_and, ◌==◌, Bool, true, false}
use Rattle.c_types.specs.CTypes.{CType, CTypes, Void, Int, Enum, Pointer, Array, Flexible, Function, Record, Named, Qualified, no_types, one_type}

-- the type behind outer typedef names and qualifiers; what stands inside it stays as written
abbrev pub plain : CType → CType
plain (Named n t) = plain t
plain (Qualified q t) = plain t
plain Void = Void
plain (Int k) = Int k
plain (Enum e) = Enum e
plain (Pointer t) = Pointer t
plain (Array t n) = Array t n
plain (Flexible t) = Flexible t
plain (Function r ps) = Function r ps
plain (Record k) = Record k

-- the qualifiers that are met on the way to it; those of an array's elements are none of these
abbrev pub qualifiers_met : CType → ℕ
qualifiers_met (Named n t) = qualifiers_met t
qualifiers_met (Qualified q t) = bit_or q (qualifiers_met t)
qualifiers_met Void = 0
qualifiers_met (Int k) = 0
qualifiers_met (Enum e) = 0
qualifiers_met (Pointer t) = 0
qualifiers_met (Array t n) = 0
qualifiers_met (Flexible t) = 0
qualifiers_met (Function r ps) = 0
qualifiers_met (Record k) = 0

-- whether const is among qualifiers
abbrev pub has_const : ℕ → Bool
has_const q = bit_and q 1 == 1

-- the result type of a function type; of another type itself
abbrev pub result_of : CType → CType
result_of (Function r ps) = r
result_of Void = Void
result_of (Int k) = Int k
result_of (Enum e) = Enum e
result_of (Pointer t) = Pointer t
result_of (Array t n) = Array t n
result_of (Flexible t) = Flexible t
result_of (Record k) = Record k
result_of (Named n t) = Named n t
result_of (Qualified q t) = Qualified q t

-- the parameter types of a function type; another type has none
abbrev pub parameters_of : CType → CTypes
parameters_of (Function r ps) = ps
parameters_of Void = no_types
parameters_of (Int k) = no_types
parameters_of (Enum e) = no_types
parameters_of (Pointer t) = no_types
parameters_of (Array t n) = no_types
parameters_of (Flexible t) = no_types
parameters_of (Record k) = no_types
parameters_of (Named n t) = no_types
parameters_of (Qualified q t) = no_types

abbrev pub is_function : CType → Bool
is_function (Function r ps) = true
is_function Void = false
is_function (Int k) = false
is_function (Enum e) = false
is_function (Pointer t) = false
is_function (Array t n) = false
is_function (Flexible t) = false
is_function (Record k) = false
is_function (Named n t) = false
is_function (Qualified q t) = false

abbrev pub count_types : CTypes → ℕ
count_types no_types = 0
count_types (one_type t ts) = suc (count_types ts)
