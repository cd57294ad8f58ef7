-- The values and types of integer constants by their spelling (ISO/IEC 9899:2018, 6.4.4.1).
use Rattle.std.specs.Prelude.{ℕ, Bool, not, ◌==◌, ◌||◌, if◌then◌else◌, List, [], ◌∷◌, take, drop, Option, pos}
use Rattle.std.specs.List.{list_any, prefix_len}
use Rattle.std.specs.Option.{option_map}
use Rattle.num_ops.specs.declared.constants.Base.{Base}
use Rattle.num_ops.specs.declared.constants.Base.TheVariants as base
use Rattle.num_ops.specs.declared.constants.Length.{Length}
use Rattle.num_ops.specs.declared.constants.Length.TheVariants as long
use Rattle.num_ops.specs.declared.kinds.IntKind.{IntKind}
use Rattle.num_ops.specs.Constants.{constant_kind}
use Rattle.num_ops.specs.Numbers.{Number}
use Rattle.c_lexer.specs.Number.{value_from}

-- unsigned-suffix: u or U
abbrev pub is_unsigned_letter : ℕ → Bool
is_unsigned_letter b = b == 117 || b == 85

-- long-suffix: l or L
abbrev pub is_long_letter : ℕ → Bool
is_long_letter b = b == 108 || b == 76

abbrev pub is_suffix_letter : ℕ → Bool
is_suffix_letter b = is_unsigned_letter b || is_long_letter b

-- a constant without its suffix: no digit and no x is a letter of a suffix
abbrev pub goes_on : ℕ → Bool
goes_on b = not (is_suffix_letter b)

abbrev pub without_suffix : List ℕ → List ℕ
without_suffix w = take (prefix_len goes_on w) w

abbrev pub is_unsigned : List ℕ → Bool
is_unsigned w = list_any is_unsigned_letter w

-- with one more l
abbrev pub longer : Length → Length
longer long.Plain = long.Long
longer long.Long = long.LongLong
longer long.LongLong = long.LongLong

abbrev pub length_from : Length → List ℕ → Length
length_from length [] = length
length_from length (b ∷ bs) = length_from (if is_long_letter b then longer length else length) bs

abbrev pub length_of : List ℕ → Length
length_of w = length_from long.Plain w

-- x or X behind the first zero
abbrev pub is_x : ℕ → Bool
is_x b = b == 120 || b == 88

abbrev pub base_behind_zero : List ℕ → Base
base_behind_zero [] = base.Octal
base_behind_zero (b ∷ bs) = if is_x b then base.Hexadecimal else base.Octal

abbrev pub base_of : List ℕ → Base
base_of [] = base.Decimal
base_of (b ∷ bs) = if b == 48 then base_behind_zero bs else base.Decimal

abbrev pub radix : Base → ℕ
radix base.Octal = 8
radix base.Decimal = 10
radix base.Hexadecimal = 16

-- the digits, behind 0x where the constant is hexadecimal
abbrev pub digits_of : Base → List ℕ → List ℕ
digits_of base.Octal w = without_suffix w
digits_of base.Decimal w = without_suffix w
digits_of base.Hexadecimal w = without_suffix (drop 2 w)

abbrev pub value_of : List ℕ → ℕ
value_of w = value_from (radix (base_of w)) 0 (digits_of (base_of w) w)

abbrev pub kind_of : List ℕ → Option IntKind
kind_of w = constant_kind (base_of w) (is_unsigned w) (length_of w) (value_of w)

-- the constant with its type; none where no type of the standard's list has its value
abbrev pub constant_of : List ℕ → Option Number
constant_of w = option_map (λ kind. record { kind = kind; value = pos (value_of w) }) (kind_of w)
