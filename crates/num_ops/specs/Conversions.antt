-- Conversions of integers (ISO/IEC 9899:2018, 6.3.1).
use Rattle.std.specs.Prelude.{ℕ, Bool, if◌then◌else◌, nat_lt, nat_le, ◌==◌, ℤ, pos, ◌-ℤ◌, int_le, unsigned_abs}
use Rattle.std.specs.Int.{int_rem_euclid}
use Rattle.num_ops.specs.declared.kinds.IntKind.{IntKind}
use Rattle.num_ops.specs.declared.kinds.IntKind.TheVariants as k
use Rattle.num_ops.specs.Kinds.{is_signed, rank, unsigned_kind, modulus, greatest, holds}

-- the bits of a number in a type's two's complement, read as a number without a sign:
-- the natural number below 2^width that differs from it by a multiple of 2^width
abbrev pub bits_of : IntKind → ℤ → ℕ
bits_of kind z = unsigned_abs (int_rem_euclid z (modulus kind))

-- the value that has these bits
abbrev pub from_bits : IntKind → ℕ → ℤ
from_bits kind n = if int_le (pos n) (greatest kind) then pos n else (pos n -ℤ modulus kind)

-- the type's value that differs from a number by a multiple of 2^width
abbrev pub wrapped : IntKind → ℤ → ℤ
wrapped kind z = from_bits kind (bits_of kind z)

-- whether a number is zero
abbrev pub is_zero : ℤ → Bool
is_zero z = unsigned_abs z == 0

-- 6.3.1.3: unchanged where the type has the value, else modulo 2^width; where the type is signed this is the choice
-- that the standard leaves to an implementation, and all common ones make
abbrev pub fitted_value : IntKind → ℤ → ℤ
fitted_value kind z = if holds kind z then z else wrapped kind z

-- 6.3.1.2: to `_Bool`, 0 if the value compares equal to 0, otherwise 1
abbrev pub converted : IntKind → ℤ → ℤ
converted k.Bool z = if is_zero z then pos 0 else pos 1
converted kind z = fitted_value kind z

-- 6.3.1.1, paragraph 2: `int` can hold every value of each type of lower rank
abbrev pub promoted : IntKind → IntKind
promoted kind = if nat_lt (rank kind) (rank k.Int) then k.Int else kind

-- 6.3.1.8: of a signed and an unsigned type
abbrev pub mixed_kind : IntKind → IntKind → IntKind
mixed_kind signed unsigned =
    if nat_le (rank signed) (rank unsigned) then unsigned
    else (if int_le (greatest unsigned) (greatest signed) then signed else unsigned_kind signed)

-- 6.3.1.8: of two types of one sign
abbrev pub higher_kind : IntKind → IntKind → IntKind
higher_kind a b = if nat_lt (rank a) (rank b) then b else a

-- 6.3.1.8: of two promoted types
abbrev pub promoted_common : IntKind → IntKind → IntKind
promoted_common a b =
    if is_signed a
    then (if is_signed b then higher_kind a b else mixed_kind a b)
    else (if is_signed b then mixed_kind b a else higher_kind a b)

-- 6.3.1.8: the usual arithmetic conversions, the promotions first
abbrev pub common_kind : IntKind → IntKind → IntKind
common_kind a b = promoted_common (promoted a) (promoted b)
