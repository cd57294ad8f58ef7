-- The standard integer types of C in the LP64 data model, `char` being signed (ISO/IEC 9899:2018, 6.2.5).
use Rattle.std.specs.Prelude.{ℕ, ◌-◌, ◌^◌, Bool, true, false, ◌&&◌, if◌then◌else◌, ℤ, pos, negsuc, int_le}
use Rattle.num_ops.specs.declared.kinds.IntKind.{IntKind}
use Rattle.num_ops.specs.declared.kinds.IntKind.TheVariants as k

-- the number of bits, the sign bit counted (6.2.6.2); `_Bool` has the values 0 and 1
abbrev pub width : IntKind → ℕ
width k.Bool = 1
width k.Char = 8
width k.SChar = 8
width k.UChar = 8
width k.Short = 16
width k.UShort = 16
width k.Int = 32
width k.UInt = 32
width k.Long = 64
width k.ULong = 64
width k.LongLong = 64
width k.ULongLong = 64

-- whether the type has negative values
abbrev pub is_signed : IntKind → Bool
is_signed k.Bool = false
is_signed k.Char = true
is_signed k.SChar = true
is_signed k.UChar = false
is_signed k.Short = true
is_signed k.UShort = false
is_signed k.Int = true
is_signed k.UInt = false
is_signed k.Long = true
is_signed k.ULong = false
is_signed k.LongLong = true
is_signed k.ULongLong = false

-- the integer conversion rank (6.3.1.1), by its order alone
abbrev pub rank : IntKind → ℕ
rank k.Bool = 0
rank k.Char = 1
rank k.SChar = 1
rank k.UChar = 1
rank k.Short = 2
rank k.UShort = 2
rank k.Int = 3
rank k.UInt = 3
rank k.Long = 4
rank k.ULong = 4
rank k.LongLong = 5
rank k.ULongLong = 5

-- the unsigned type of the same rank (6.2.5, paragraph 6)
abbrev pub unsigned_kind : IntKind → IntKind
unsigned_kind k.Bool = k.Bool
unsigned_kind k.Char = k.UChar
unsigned_kind k.SChar = k.UChar
unsigned_kind k.UChar = k.UChar
unsigned_kind k.Short = k.UShort
unsigned_kind k.UShort = k.UShort
unsigned_kind k.Int = k.UInt
unsigned_kind k.UInt = k.UInt
unsigned_kind k.Long = k.ULong
unsigned_kind k.ULong = k.ULong
unsigned_kind k.LongLong = k.ULongLong
unsigned_kind k.ULongLong = k.ULongLong

-- how many values the type has
abbrev pub modulus : IntKind → ℤ
modulus kind = pos (2 ^ width kind)

-- the least and the greatest value (6.2.6.2: two's complement)
abbrev pub least : IntKind → ℤ
least kind = if is_signed kind then negsuc (2 ^ (width kind - 1) - 1) else pos 0

abbrev pub greatest : IntKind → ℤ
greatest kind = if is_signed kind then pos (2 ^ (width kind - 1) - 1) else pos (2 ^ width kind - 1)

-- whether the type has this value
abbrev pub holds : IntKind → ℤ → Bool
holds kind z = int_le (least kind) z && int_le z (greatest kind)
