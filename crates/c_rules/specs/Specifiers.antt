-- Rule 3: which specifiers stand together, and their type (ISO/IEC 9899:2018, 6.7.1 to 6.7.4).
use Rattle.std.specs.Prelude.{ℕ, ◌==◌, nat_le, nat_lt, bit_or, Bool, true, false, ◌&&◌, ◌||◌, not, if◌then◌else◌, List, [], ◌∷◌, ◌++◌, length, filter, Option, Some, None, is_some, unwrap_or}
use Rattle.num_ops.specs.declared.kinds.IntKind.TheVariants as k
use Rattle.c_tree.specs.Tok.{Word, KTypedef, KExtern, KStatic, KAuto, KRegister, KConst, KVolatile, KRestrict, KVoid, KBool, KChar, KShort, KInt, KLong, KSigned, KUnsigned}
use Rattle.c_types.specs.CTypes.{CType, Void, Int}
use Rattle.c_types.specs.Canonical.{with_qualifiers}
use Rattle.c_rules.specs.declared.known.Holder.{Holder}
use Rattle.c_rules.specs.declared.known.Holder.TheVariants.{FileDeclaration, BlockDeclaration, Definition, Part}

-- the specifiers that were read: the keywords, and the types that are none; whether a struct, union or enumeration stands there
pub record Specified : Type 0 where
  pub words : List Word
  pub types : List CType
  pub has_tag : Bool

abbrev pub nothing_specified : Specified
nothing_specified = record { words = []; types = []; has_tag = false }

abbrev pub with_word : Word → Specified → Specified
with_word x s = record s { words = s.words ++ x ∷ [] }

abbrev pub with_type : CType → Specified → Specified
with_type t s = record s { types = s.types ++ t ∷ [] }

-- ---- words

-- the words of which types are written, by a number each; others have 0
abbrev pub type_word : Word → ℕ
type_word KVoid = 1
type_word KBool = 2
type_word KChar = 3
type_word KShort = 4
type_word KInt = 5
type_word KLong = 6
type_word KSigned = 7
type_word KUnsigned = 8
type_word x = 0

abbrev pub is_storage : Word → Bool
is_storage KTypedef = true
is_storage KExtern = true
is_storage KStatic = true
is_storage KAuto = true
is_storage KRegister = true
is_storage x = false

abbrev pub is_typedef : Word → Bool
is_typedef KTypedef = true
is_typedef x = false

abbrev pub is_extern : Word → Bool
is_extern KExtern = true
is_extern x = false

abbrev pub is_static : Word → Bool
is_static KStatic = true
is_static x = false

-- const 1, volatile 2, restrict 4
abbrev pub qualifier : Word → ℕ
qualifier KConst = 1
qualifier KVolatile = 2
qualifier KRestrict = 4
qualifier x = 0

abbrev pub qualifiers_in : List Word → ℕ
qualifiers_in [] = 0
qualifiers_in (x ∷ xs) = bit_or (qualifier x) (qualifiers_in xs)

abbrev pub has : (Word → Bool) → List Word → Bool
has p [] = false
has p (x ∷ xs) = p x || has p xs

abbrev pub how_many : (Word → Bool) → List Word → ℕ
how_many p xs = length (filter p xs)

-- ---- the type that words write, in whatever order (6.7.2, paragraph 2)

pub record Written : Type 0 where
  pub words : List Word
  pub type : CType

abbrev pub row : List Word → CType → Written
row ws t = record { words = ws; type = t }

unfoldable pub written_types : List Written
written_types =
    row (KVoid ∷ []) Void ∷ row (KBool ∷ []) (Int k.Bool)
    ∷ row (KChar ∷ []) (Int k.Char) ∷ row (KSigned ∷ KChar ∷ []) (Int k.SChar) ∷ row (KUnsigned ∷ KChar ∷ []) (Int k.UChar)
    ∷ row (KShort ∷ []) (Int k.Short) ∷ row (KSigned ∷ KShort ∷ []) (Int k.Short)
    ∷ row (KShort ∷ KInt ∷ []) (Int k.Short) ∷ row (KSigned ∷ KShort ∷ KInt ∷ []) (Int k.Short)
    ∷ row (KUnsigned ∷ KShort ∷ []) (Int k.UShort) ∷ row (KUnsigned ∷ KShort ∷ KInt ∷ []) (Int k.UShort)
    ∷ row (KInt ∷ []) (Int k.Int) ∷ row (KSigned ∷ []) (Int k.Int) ∷ row (KSigned ∷ KInt ∷ []) (Int k.Int)
    ∷ row (KUnsigned ∷ []) (Int k.UInt) ∷ row (KUnsigned ∷ KInt ∷ []) (Int k.UInt)
    ∷ row (KLong ∷ []) (Int k.Long) ∷ row (KSigned ∷ KLong ∷ []) (Int k.Long)
    ∷ row (KLong ∷ KInt ∷ []) (Int k.Long) ∷ row (KSigned ∷ KLong ∷ KInt ∷ []) (Int k.Long)
    ∷ row (KUnsigned ∷ KLong ∷ []) (Int k.ULong) ∷ row (KUnsigned ∷ KLong ∷ KInt ∷ []) (Int k.ULong)
    ∷ row (KLong ∷ KLong ∷ []) (Int k.LongLong) ∷ row (KSigned ∷ KLong ∷ KLong ∷ []) (Int k.LongLong)
    ∷ row (KLong ∷ KLong ∷ KInt ∷ []) (Int k.LongLong) ∷ row (KSigned ∷ KLong ∷ KLong ∷ KInt ∷ []) (Int k.LongLong)
    ∷ row (KUnsigned ∷ KLong ∷ KLong ∷ []) (Int k.ULongLong) ∷ row (KUnsigned ∷ KLong ∷ KLong ∷ KInt ∷ []) (Int k.ULongLong)
    ∷ []

abbrev pub is_word : ℕ → Word → Bool
is_word n x = type_word x == n

-- as often the one as the other, of the words with these numbers
abbrev pub as_often : List ℕ → List Word → List Word → Bool
as_often [] xs ys = true
as_often (n ∷ ns) xs ys = (how_many (is_word n) xs == how_many (is_word n) ys) && as_often ns xs ys

abbrev pub are_same_words : List Word → List Word → Bool
are_same_words xs ys = as_often (1 ∷ 2 ∷ 3 ∷ 4 ∷ 5 ∷ 6 ∷ 7 ∷ 8 ∷ []) xs ys

abbrev pub written_in : List Word → List Written → Option CType
written_in xs [] = None
written_in xs (r ∷ rs) = if are_same_words xs r.words then Some r.type else written_in xs rs

abbrev pub is_type_word : Word → Bool
is_type_word x = nat_lt 0 (type_word x)

-- the one type of the specifiers
abbrev pub type_specified : List CType → List Word → Option CType
type_specified [] xs = written_in xs written_types
type_specified (t ∷ []) xs = if has is_type_word xs then None else Some t
type_specified (t ∷ u ∷ ts) xs = None

abbrev pub base_type : Specified → CType
base_type s = with_qualifiers (qualifiers_in s.words) (unwrap_or (type_specified s.types s.words) (Int k.Int))

-- ---- rule 3

-- `typedef` and functions are declared at file scope, and `extern` stands there only
abbrev pub may_hold : Holder → List Word → (has_function : Bool) → Bool
may_hold FileDeclaration xs has_function = true
may_hold BlockDeclaration xs has_function = not (has is_typedef xs) && not (has is_extern xs) && not has_function
may_hold Definition xs has_function = not (has is_typedef xs)
may_hold Part xs has_function = not (has is_typedef xs) && not (has is_extern xs)

-- one type, at most one storage class, and without a declarator a struct, a union or an enumeration
abbrev pub are_specifiers : Holder → Specified → (has_declarator has_function : Bool) → Bool
are_specifiers holder s has_declarator has_function =
    is_some (type_specified s.types s.words) && nat_le (how_many is_storage s.words) 1
    && may_hold holder s.words has_function && (has_declarator || s.has_tag)
