-- Arithmetic of integers: the exact result as a whole number, then that number where its type has it,
-- that number modulo 2^width where the type is unsigned, or nothing, with the cause (ISO/IEC 9899:2018, 6.5).
use Rattle.std.specs.Prelude.{ℕ, ◌^◌, Bool, not, ◌&&◌, if◌then◌else◌, ℤ, pos, ◌+ℤ◌, ◌-ℤ◌, ◌*ℤ◌, int_lt, int_le, int_div, int_rem, unsigned_abs, bit_and, bit_or, bit_xor, Result, Ok, Err}
use Rattle.std.specs.Int.{int_div_euclid}
use Rattle.std.specs.Ordering.{int_eq}
use Rattle.num_ops.specs.declared.kinds.IntKind.{IntKind}
use Rattle.num_ops.specs.declared.arithmetic.Op.{Op}
use Rattle.num_ops.specs.declared.arithmetic.Op.TheVariants as op
use Rattle.num_ops.specs.declared.shifts.Cmp.{Cmp}
use Rattle.num_ops.specs.declared.shifts.Cmp.TheVariants as cmp
use Rattle.num_ops.specs.declared.arithmetic.Undefined.{Undefined}
use Rattle.num_ops.specs.declared.arithmetic.Undefined.TheVariants as undefined
use Rattle.num_ops.specs.Numbers.{Number}
use Rattle.num_ops.specs.Kinds.{width, is_signed, holds}
use Rattle.num_ops.specs.Conversions.{wrapped, bits_of, from_bits, is_zero}

-- a number as a value of the type
abbrev pub outcome : IntKind → Result ℤ Undefined → Result Number Undefined
outcome kind (Ok z) = Ok (record { kind = kind; value = z })
outcome kind (Err cause) = Err cause

-- 6.5, paragraph 5, and 6.2.5, paragraph 9: an exact result that the type has stands; a signed one out of range is
-- undefined; an unsigned one is reduced modulo 2^width
abbrev pub fitted : IntKind → ℤ → Result ℤ Undefined
fitted kind z = if holds kind z then Ok z else (if is_signed kind then Err undefined.Overflow else Ok (wrapped kind z))

-- 6.5.5, paragraphs 5 and 6: the quotient is rounded toward zero; a divisor 0 is undefined; where the type
-- does not have the quotient, the remainder is undefined too
abbrev pub quotient : IntKind → ℤ → ℤ → Result ℤ Undefined
quotient kind a b = if is_zero b then Err undefined.DivZero else fitted kind (int_div a b)

abbrev pub remainder : IntKind → ℤ → ℤ → Result ℤ Undefined
remainder kind a b =
    if is_zero b then Err undefined.DivZero
    else (if holds kind (int_div a b) then Ok (int_rem a b) else Err undefined.Overflow)

-- 6.5.10 to 6.5.12: each bit of the result is that of the operands' bits in two's complement
abbrev pub bitwise : (ℕ → ℕ → ℕ) → IntKind → ℤ → ℤ → Result ℤ Undefined
bitwise f kind a b = Ok (from_bits kind (f (bits_of kind a) (bits_of kind b)))

-- 6.5.5, 6.5.6, 6.5.10 to 6.5.12, of two operands of one promoted type
abbrev pub arithmetic : Op → IntKind → ℤ → ℤ → Result ℤ Undefined
arithmetic op.Add kind a b = fitted kind (a +ℤ b)
arithmetic op.Sub kind a b = fitted kind (a -ℤ b)
arithmetic op.Mul kind a b = fitted kind (a *ℤ b)
arithmetic op.Div kind a b = quotient kind a b
arithmetic op.Rem kind a b = remainder kind a b
arithmetic op.BitAnd kind a b = bitwise bit_and kind a b
arithmetic op.BitOr kind a b = bitwise bit_or kind a b
arithmetic op.BitXor kind a b = bitwise bit_xor kind a b

-- 6.5.7, paragraph 3: a count that is negative or not below the width is undefined
abbrev pub is_count : IntKind → ℤ → Bool
is_count kind count = int_le (pos 0) count && int_lt count (pos (width kind))

-- 6.5.7, paragraph 4: a times 2^count; where the type is signed and a is negative or the product is out of range, undefined
abbrev pub shifted_left : IntKind → ℤ → ℤ → Result ℤ Undefined
shifted_left kind a product =
    if is_signed kind
    then (if int_le (pos 0) a && holds kind product then Ok product else Err undefined.Shift)
    else Ok (wrapped kind product)

-- 6.5.7, paragraph 5: a over 2^count, rounded down; of a negative a this is the choice that the standard leaves to an
-- implementation, and all common ones make
abbrev pub shifted : Bool → IntKind → ℤ → ℤ → Result ℤ Undefined
shifted left kind a count =
    if is_count kind count
    then (if left then shifted_left kind a (a *ℤ pos (2 ^ unsigned_abs count)) else Ok (int_div_euclid a (pos (2 ^ unsigned_abs count))))
    else Err undefined.Shift

-- 6.5.8 and 6.5.9
abbrev pub compared : Cmp → ℤ → ℤ → Bool
compared cmp.Lt a b = int_lt a b
compared cmp.Le a b = int_le a b
compared cmp.Gt a b = int_lt b a
compared cmp.Ge a b = int_le b a
compared cmp.Eq a b = int_eq a b
compared cmp.Ne a b = not (int_eq a b)
