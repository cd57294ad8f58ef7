-- Worked rows of the definitions, all by computation.
use Rattle.std.specs.Prelude.{◌≡◌, [], ◌∷◌, codes, Some, None, pos, negsuc}
use Rattle.num_ops.specs.declared.kinds.IntKind.TheVariants as k
use Rattle.c_constants.specs.Integers.{constant_of}
use Rattle.c_constants.specs.Literals.{literal_bytes, char_value, text_length}

abbrev pub IntegerRows : Type 0
IntegerRows =
    (constant_of (codes "0") ≡ Some (record { kind = k.Int; value = pos 0 }))
    × (constant_of (codes "2147483648") ≡ Some (record { kind = k.Long; value = pos 2147483648 }))
    × (constant_of (codes "0x80000000") ≡ Some (record { kind = k.UInt; value = pos 2147483648 }))
    × (constant_of (codes "0777l") ≡ Some (record { kind = k.Long; value = pos 511 }))
    × (constant_of (codes "10Ull") ≡ Some (record { kind = k.ULongLong; value = pos 10 }))
    × (constant_of (codes "0XfFLU") ≡ Some (record { kind = k.ULong; value = pos 255 }))
    × (constant_of (codes "9223372036854775808") ≡ None)
    × (constant_of (codes "9223372036854775808u") ≡ Some (record { kind = k.ULong; value = pos 9223372036854775808 }))
    × (constant_of (codes "0xffffffffffffffff") ≡ Some (record { kind = k.ULong; value = pos 18446744073709551615 }))

-- 92 is the backslash, 34 and 39 are the quotes
abbrev pub LiteralRows : Type 0
LiteralRows =
    (literal_bytes (34 ∷ 34 ∷ []) ≡ [])
    × (literal_bytes (34 ∷ 97 ∷ 98 ∷ 34 ∷ []) ≡ 97 ∷ 98 ∷ [])
    × (literal_bytes (34 ∷ 92 ∷ 110 ∷ 92 ∷ 48 ∷ 34 ∷ []) ≡ 10 ∷ 0 ∷ [])
    × (literal_bytes (34 ∷ 92 ∷ 49 ∷ 50 ∷ 51 ∷ 52 ∷ 34 ∷ []) ≡ 83 ∷ 52 ∷ [])
    × (literal_bytes (34 ∷ 92 ∷ 120 ∷ 52 ∷ 49 ∷ 103 ∷ 92 ∷ 34 ∷ 34 ∷ []) ≡ 65 ∷ 103 ∷ 34 ∷ [])
    × (char_value (39 ∷ 97 ∷ 39 ∷ []) ≡ pos 97)
    × (char_value (39 ∷ 92 ∷ 120 ∷ 102 ∷ 102 ∷ 39 ∷ []) ≡ negsuc 0)
    × (char_value (39 ∷ 92 ∷ 51 ∷ 55 ∷ 55 ∷ 39 ∷ []) ≡ negsuc 0)
    × (text_length ((34 ∷ 97 ∷ 34 ∷ []) ∷ (34 ∷ 98 ∷ 99 ∷ 34 ∷ []) ∷ []) ≡ 3)
