-- Worked rows of the definitions, all by computation.
use Rattle.std.specs.Prelude.{◌≡◌, true, false, pos, negsuc, Ok, Err, Some, None}
use Rattle.num_ops.specs.declared.kinds.IntKind.TheVariants as k
use Rattle.num_ops.specs.declared.arithmetic.Op.TheVariants as op
use Rattle.num_ops.specs.declared.shifts.Cmp.TheVariants as cmp
use Rattle.num_ops.specs.declared.arithmetic.Undefined.TheVariants as undefined
use Rattle.num_ops.specs.declared.constants.Base.TheVariants as b
use Rattle.num_ops.specs.declared.constants.Length.TheVariants as l
use Rattle.num_ops.specs.Constants.{constant_kind}
use Rattle.num_ops.specs.Conversions.{converted, promoted, common_kind}
use Rattle.num_ops.specs.Arithmetic.{arithmetic, shifted, compared}

abbrev pub ConversionRows : Type 0
ConversionRows =
    (converted k.UChar (negsuc 0) ≡ pos 255)
    × (converted k.SChar (pos 200) ≡ negsuc 55)
    × (converted k.UInt (negsuc 0) ≡ pos 4294967295)
    × (converted k.Int (pos 4294967295) ≡ negsuc 0)
    × (converted k.Bool (pos 256) ≡ pos 1)
    × (promoted k.UShort ≡ k.Int)
    × (promoted k.UInt ≡ k.UInt)
    × (common_kind k.UInt k.Long ≡ k.Long)
    × (common_kind k.ULong k.LongLong ≡ k.ULongLong)
    × (common_kind k.UInt k.LongLong ≡ k.LongLong)
    × (common_kind k.Int k.UInt ≡ k.UInt)
    × (common_kind k.Char k.Bool ≡ k.Int)

abbrev pub ArithmeticRows : Type 0
ArithmeticRows =
    (arithmetic op.Add k.Int (pos 2147483647) (pos 1) ≡ Err undefined.Overflow)
    × (arithmetic op.Add k.UInt (pos 4294967295) (pos 1) ≡ Ok (pos 0))
    × (arithmetic op.Mul k.ULong (pos 18446744073709551615) (pos 18446744073709551615) ≡ Ok (pos 1))
    × (arithmetic op.Div k.Int (negsuc 2147483647) (negsuc 0) ≡ Err undefined.Overflow)
    × (arithmetic op.Rem k.Int (negsuc 2147483647) (negsuc 0) ≡ Err undefined.Overflow)
    × (arithmetic op.Rem k.Int (pos 1) (pos 0) ≡ Err undefined.DivZero)
    × (arithmetic op.Div k.Int (negsuc 6) (pos 2) ≡ Ok (negsuc 2))
    × (arithmetic op.Rem k.Int (negsuc 6) (pos 2) ≡ Ok (negsuc 0))
    × (arithmetic op.BitAnd k.Int (negsuc 0) (pos 255) ≡ Ok (pos 255))
    × (arithmetic op.BitOr k.Int (negsuc 15) (pos 5) ≡ Ok (negsuc 10))
    × (arithmetic op.BitXor k.Int (negsuc 0) (pos 5) ≡ Ok (negsuc 5))
    × (compared cmp.Lt (negsuc 0) (pos 0) ≡ true)

abbrev pub ShiftRows : Type 0
ShiftRows =
    (shifted true k.UInt (pos 2147483648) (pos 1) ≡ Ok (pos 0))
    × (shifted true k.Int (pos 1073741824) (pos 1) ≡ Err undefined.Shift)
    × (shifted true k.Int (negsuc 0) (pos 1) ≡ Err undefined.Shift)
    × (shifted true k.Int (pos 1) (pos 32) ≡ Err undefined.Shift)
    × (shifted false k.Int (pos 1) (negsuc 0) ≡ Err undefined.Shift)
    × (shifted false k.Int (negsuc 6) (pos 1) ≡ Ok (negsuc 3))

-- 2147483647, 2147483648, 0x80000000, 037777777777, 9223372036854775808, 0xffffffffffffffff, 1U, 4294967296U, 1L, 0x8000000000000000L,
-- 1ULL, 9223372036854775808LL
abbrev pub ConstantRows : Type 0
ConstantRows =
    (constant_kind b.Decimal false l.Plain 2147483647 ≡ Some k.Int)
    × (constant_kind b.Decimal false l.Plain 2147483648 ≡ Some k.Long)
    × (constant_kind b.Hexadecimal false l.Plain 2147483648 ≡ Some k.UInt)
    × (constant_kind b.Octal false l.Plain 4294967295 ≡ Some k.UInt)
    × (constant_kind b.Octal false l.Plain 4294967296 ≡ Some k.Long)
    × (constant_kind b.Decimal false l.Plain 9223372036854775808 ≡ None)
    × (constant_kind b.Hexadecimal false l.Plain 18446744073709551615 ≡ Some k.ULong)
    × (constant_kind b.Decimal true l.Plain 1 ≡ Some k.UInt)
    × (constant_kind b.Decimal true l.Plain 4294967296 ≡ Some k.ULong)
    × (constant_kind b.Decimal false l.Long 1 ≡ Some k.Long)
    × (constant_kind b.Hexadecimal false l.Long 9223372036854775808 ≡ Some k.ULong)
    × (constant_kind b.Decimal true l.LongLong 1 ≡ Some k.ULongLong)
    × (constant_kind b.Decimal false l.LongLong 9223372036854775808 ≡ None)
