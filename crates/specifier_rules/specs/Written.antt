-- The types that words write, in five parts.
use Rattle.std.specs.Prelude.{Bool, if◌then◌else◌, List, [], ◌∷◌, Option, Some, None}
use Rattle.num_ops.specs.declared.kinds.IntKind.TheVariants as k
use Rattle.c_tree.specs.Tok.{Word, KVoid, KBool, KChar, KShort, KInt, KLong, KSigned, KUnsigned}
use Rattle.c_types.specs.CTypes.{CType, Void, Int}
use Rattle.c_rules.specs.World.{or_else}
use Rattle.specifier_rules.specs.declared.written.Basic.{Basic}
use Rattle.specifier_rules.specs.declared.written.Basic.TheVariants as b

abbrev pub basic_type : Basic → CType
basic_type b.Void = Void
basic_type (b.Int kind) = Int kind

-- `is`: whether the words of a row stand there
abbrev pub written_chars : (is : List Word → Bool) → Option CType
written_chars is =
    if is (KVoid ∷ []) then Some Void
    else if is (KBool ∷ []) then Some (Int k.Bool)
    else if is (KChar ∷ []) then Some (Int k.Char)
    else if is (KSigned ∷ KChar ∷ []) then Some (Int k.SChar)
    else if is (KUnsigned ∷ KChar ∷ []) then Some (Int k.UChar)
    else None

abbrev pub written_shorts : (is : List Word → Bool) → Option CType
written_shorts is =
    if is (KShort ∷ []) then Some (Int k.Short)
    else if is (KSigned ∷ KShort ∷ []) then Some (Int k.Short)
    else if is (KShort ∷ KInt ∷ []) then Some (Int k.Short)
    else if is (KSigned ∷ KShort ∷ KInt ∷ []) then Some (Int k.Short)
    else if is (KUnsigned ∷ KShort ∷ []) then Some (Int k.UShort)
    else if is (KUnsigned ∷ KShort ∷ KInt ∷ []) then Some (Int k.UShort)
    else None

abbrev pub written_ints : (is : List Word → Bool) → Option CType
written_ints is =
    if is (KInt ∷ []) then Some (Int k.Int)
    else if is (KSigned ∷ []) then Some (Int k.Int)
    else if is (KSigned ∷ KInt ∷ []) then Some (Int k.Int)
    else if is (KUnsigned ∷ []) then Some (Int k.UInt)
    else if is (KUnsigned ∷ KInt ∷ []) then Some (Int k.UInt)
    else None

abbrev pub written_longs : (is : List Word → Bool) → Option CType
written_longs is =
    if is (KLong ∷ []) then Some (Int k.Long)
    else if is (KSigned ∷ KLong ∷ []) then Some (Int k.Long)
    else if is (KLong ∷ KInt ∷ []) then Some (Int k.Long)
    else if is (KSigned ∷ KLong ∷ KInt ∷ []) then Some (Int k.Long)
    else if is (KUnsigned ∷ KLong ∷ []) then Some (Int k.ULong)
    else if is (KUnsigned ∷ KLong ∷ KInt ∷ []) then Some (Int k.ULong)
    else None

abbrev pub written_long_longs : (is : List Word → Bool) → Option CType
written_long_longs is =
    if is (KLong ∷ KLong ∷ []) then Some (Int k.LongLong)
    else if is (KSigned ∷ KLong ∷ KLong ∷ []) then Some (Int k.LongLong)
    else if is (KLong ∷ KLong ∷ KInt ∷ []) then Some (Int k.LongLong)
    else if is (KSigned ∷ KLong ∷ KLong ∷ KInt ∷ []) then Some (Int k.LongLong)
    else if is (KUnsigned ∷ KLong ∷ KLong ∷ []) then Some (Int k.ULongLong)
    else if is (KUnsigned ∷ KLong ∷ KLong ∷ KInt ∷ []) then Some (Int k.ULongLong)
    else None

abbrev pub written_by : (is : List Word → Bool) → Option CType
written_by is = or_else (written_chars is) (or_else (written_shorts is) (or_else (written_ints is) (or_else (written_longs is) (written_long_longs is))))
