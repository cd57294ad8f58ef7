-- The spelling of a type: its type name without blanks that it does not need (ISO/IEC 9899:2018, 6.7.7), of the canonical
-- type, whose parameters have no outer qualifiers, without the type's own outer ones and those of an outer array's elements.
use Rattle.std.specs.Prelude.{ℕ, zero, suc, ◌+◌, ◌/◌, ◌%◌, nat_lt, Bool, true, false, if◌then◌else◌, ◌==◌, bit_or, bit_and, codes, List, [], ◌∷◌, ◌++◌}
use Rattle.num_ops.specs.declared.kinds.IntKind.{IntKind}
use Rattle.num_ops.specs.declared.kinds.IntKind.TheVariants as k
use Rattle.c_types.specs.CTypes.{CType, CTypes, Void, Int, Enum, Pointer, Array, Flexible, Function, Record, Named, Qualified, no_types, one_type}
use Rattle.c_types.specs.Canonical.{canonical}

-- without the outer qualifiers, and those of an outer array's elements
abbrev pub stripped : CType → CType
stripped (Qualified q t) = t
stripped (Array t n) = Array (stripped t) n
stripped (Flexible t) = Flexible (stripped t)
stripped Void = Void
stripped (Int k) = Int k
stripped (Enum e) = Enum e
stripped (Pointer t) = Pointer t
stripped (Function r ps) = Function r ps
stripped (Record k) = Record k
stripped (Named n t) = Named n t

abbrev pub int_name : IntKind → List ℕ
int_name k.Bool = codes "_Bool"
int_name k.Char = codes "char"
int_name k.SChar = codes "signed char"
int_name k.UChar = codes "unsigned char"
int_name k.Short = codes "short"
int_name k.UShort = codes "unsigned short"
int_name k.Int = codes "int"
int_name k.UInt = codes "unsigned int"
int_name k.Long = codes "long"
int_name k.ULong = codes "unsigned long"
int_name k.LongLong = codes "long long"
int_name k.ULongLong = codes "unsigned long long"

-- the digits of a number before a text; ten digits are enough for an array's length
abbrev pub digits_before : (most : ℕ) → ℕ → List ℕ → List ℕ
digits_before zero n d = d
digits_before (suc most) n d = if nat_lt n 10 then ((48 + n) ∷ d) else digits_before most (n / 10) ((48 + n % 10) ∷ d)

abbrev pub decimal : ℕ → List ℕ
decimal n = digits_before 10 n []

-- the text inside, with a space before it unless it is empty or begins with `[`
abbrev pub spaced : List ℕ → List ℕ
spaced [] = []
spaced (b ∷ bs) = if b == 91 then (b ∷ bs) else (32 ∷ b ∷ bs)

abbrev pub has_qualifier : ℕ → ℕ → Bool
has_qualifier q bit = if bit_and q bit == 0 then false else true

-- const and volatile before a base's name, each with a space
abbrev pub base_qualifiers : ℕ → List ℕ
base_qualifiers q =
    (if has_qualifier q 1 then codes "const " else []) ++ (if has_qualifier q 2 then codes "volatile " else [])

-- a qualifier behind others, with a space between
abbrev pub joined : List ℕ → List ℕ → List ℕ
joined [] word = word
joined (b ∷ bs) word = (b ∷ bs) ++ 32 ∷ word

abbrev pub joined_if : Bool → List ℕ → List ℕ → List ℕ
joined_if has before word = if has then joined before word else before

-- const, volatile and restrict behind a star, with spaces between
abbrev pub pointer_qualifiers : ℕ → List ℕ
pointer_qualifiers q =
    joined_if (has_qualifier q 4) (joined_if (has_qualifier q 2) (joined_if (has_qualifier q 1) [] (codes "const")) (codes "volatile")) (codes "restrict")

-- a star with the pointer's qualifiers before the text inside
abbrev pub star : ℕ → List ℕ → List ℕ
star q d = if q == 0 then (42 ∷ d) else ((42 ∷ pointer_qualifiers q) ++ spaced d)

-- in parentheses before an array's length or a function's parameters
abbrev pub is_suffixed : CType → Bool
is_suffixed (Array t n) = true
is_suffixed (Flexible t) = true
is_suffixed (Function r ps) = true
is_suffixed (Qualified q t) = is_suffixed t
is_suffixed (Named n t) = is_suffixed t
is_suffixed Void = false
is_suffixed (Int k) = false
is_suffixed (Enum e) = false
is_suffixed (Pointer t) = false
is_suffixed (Record k) = false

abbrev pub enclosed : CType → List ℕ → List ℕ
enclosed t e = if is_suffixed t then ((40 ∷ e) ++ 41 ∷ []) else e

abbrev pub base : ℕ → List ℕ → List ℕ → List ℕ
base q name d = (base_qualifiers q ++ name) ++ spaced d

-- the tags of records and enumerations by number
pub record Names : Type 0 where
  pub records : ℕ → List ℕ
  pub enums : ℕ → List ℕ

-- the spelling of a type with these qualifiers round the text inside
abbrev mutual
  pub spelled : Names → ℕ → CType → List ℕ → List ℕ
  spelled names q Void d = base q (codes "void") d
  spelled names q (Int kind) d = base q (int_name kind) d
  spelled names q (Enum e) d = base q (names.enums e) d
  spelled names q (Record k) d = base q (names.records k) d
  spelled names q (Pointer t) d = spelled names 0 t (enclosed t (star q d))
  spelled names q (Array t n) d = spelled names q t (d ++ 91 ∷ decimal n ++ 93 ∷ [])
  spelled names q (Flexible t) d = spelled names q t (d ++ 91 ∷ 93 ∷ [])
  spelled names q (Function r ps) d = spelled names 0 r (d ++ 40 ∷ spelled_parameters names ps ++ 41 ∷ [])
  spelled names q (Named n t) d = spelled names q t d
  spelled names q (Qualified p t) d = spelled names (bit_or q p) t d

  pub spelled_parameters : Names → CTypes → List ℕ
  spelled_parameters names no_types = codes "void"
  spelled_parameters names (one_type p ps) = spelled names 0 p [] ++ spelled_more names ps

  pub spelled_more : Names → CTypes → List ℕ
  spelled_more names no_types = []
  spelled_more names (one_type p ps) = codes ", " ++ spelled names 0 p [] ++ spelled_more names ps

abbrev pub spelling : Names → CType → List ℕ
spelling names t = spelled names 0 (stripped (canonical t)) []
