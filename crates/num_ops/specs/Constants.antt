-- The kinds of constants (ISO/IEC 9899:2018, 6.4.4.1, paragraph 5, and 6.4.4.4, paragraph 10).
use Rattle.std.specs.Prelude.{ℕ, Bool, true, false, if◌then◌else◌, List, [], ◌∷◌, Option, Some, None, pos}
use Rattle.num_ops.specs.declared.kinds.IntKind.{IntKind}
use Rattle.num_ops.specs.declared.kinds.IntKind.TheVariants as k
use Rattle.num_ops.specs.declared.constants.Base.{Base}
use Rattle.num_ops.specs.declared.constants.Base.TheVariants as b
use Rattle.num_ops.specs.declared.constants.Length.{Length}
use Rattle.num_ops.specs.declared.constants.Length.TheVariants as l
use Rattle.num_ops.specs.Kinds.{holds}

-- the standard's table: for each suffix the list for decimal constants, and that for octal and hexadecimal ones
abbrev pub unsigned_list : Length → List IntKind
unsigned_list l.Plain = k.UInt ∷ k.ULong ∷ k.ULongLong ∷ []
unsigned_list l.Long = k.ULong ∷ k.ULongLong ∷ []
unsigned_list l.LongLong = k.ULongLong ∷ []

abbrev pub decimal_list : Length → List IntKind
decimal_list l.Plain = k.Int ∷ k.Long ∷ k.LongLong ∷ []
decimal_list l.Long = k.Long ∷ k.LongLong ∷ []
decimal_list l.LongLong = k.LongLong ∷ []

abbrev pub other_list : Length → List IntKind
other_list l.Plain = k.Int ∷ k.UInt ∷ k.Long ∷ k.ULong ∷ k.LongLong ∷ k.ULongLong ∷ []
other_list l.Long = k.Long ∷ k.ULong ∷ k.LongLong ∷ k.ULongLong ∷ []
other_list l.LongLong = k.LongLong ∷ k.ULongLong ∷ []

abbrev pub signed_list : Base → Length → List IntKind
signed_list b.Decimal length = decimal_list length
signed_list b.Octal length = other_list length
signed_list b.Hexadecimal length = other_list length

-- the kinds that a constant may have; `is_unsigned`: its suffix has a u or U; `length`: how many l or L it has
abbrev pub kinds_for : Base → (is_unsigned : Bool) → Length → List IntKind
kinds_for base is_unsigned length = if is_unsigned then unsigned_list length else signed_list base length

-- the first kind of a list that has the value
abbrev pub first_kind : ℕ → List IntKind → Option IntKind
first_kind n [] = None
first_kind n (kind ∷ more) = if holds kind (pos n) then Some kind else first_kind n more

abbrev pub constant_kind : Base → (is_unsigned : Bool) → Length → (value : ℕ) → Option IntKind
constant_kind base is_unsigned length n = first_kind n (kinds_for base is_unsigned length)

-- a character constant without prefix is an int
abbrev pub char_kind : IntKind
char_kind = k.Int
