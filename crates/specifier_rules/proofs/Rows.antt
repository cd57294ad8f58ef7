-- The rows of written types, in five parts.
use Rattle.std.proofs.Common.{◌≡◌, ℕ, Bool, true, false, ◌&&◌, ◌==◌, if◌then◌else◌, List, [], ◌∷◌, Option, Some, None, refl, ap, ◌∙◌}
use Rattle.c_tree.specs.Tok.{Word, KVoid, KBool, KChar, KShort, KInt, KLong, KSigned, KUnsigned}
use Rattle.num_ops.specs.declared.kinds.IntKind.TheVariants as k
use Rattle.c_types.specs.CTypes.{CType, Void, Int}
use Rattle.c_rules.specs.Specifiers.{Written, are_same_words, how_many, is_word, written_in, written_types}
use Rattle.c_rules.specs.World.{or_else}
use Rattle.specifier_rules.specs.Counts.{agrees, counted}
use Rattle.specifier_rules.specs.Written.{written_by, written_chars, written_shorts, written_ints, written_longs, written_long_longs}

eight : (a b c d e f g h : Bool) → (a && (b && (c && (d && (e && (f && (g && (h && true)))))))) ≡ ((a && b && c && d) && (e && f && g && h))
eight true true true true true true true true = refl
eight true true true true true true true false = refl
eight true true true true true true false h = refl
eight true true true true true false g h = refl
eight true true true true false f g h = refl
eight true true true false e f g h = refl
eight true true false d e f g h = refl
eight true false c d e f g h = refl
eight false b c d e f g h = refl

pub agrees_is : (xs ys : List Word) → are_same_words xs ys ≡ agrees (counted xs) ys
unfolding agrees
agrees_is xs ys = eight (is 1) (is 2) (is 3) (is 4) (is 5) (is 6) (is 7) (is 8)
  where
    is : ℕ → Bool
    is n = how_many (is_word n) xs == how_many (is_word n) ys

module _ {A : Type 0} where
  five : (a b c d e : Bool) (u v w x y : A) (rest : Option A)
      → (if a then Some u else if b then Some v else if c then Some w else if d then Some x else if e then Some y else rest)
      ≡ or_else (if a then Some u else if b then Some v else if c then Some w else if d then Some x else if e then Some y else None) rest
  five true b c d e u v w x y rest = refl
  five false true c d e u v w x y rest = refl
  five false false true d e u v w x y rest = refl
  five false false false true e u v w x y rest = refl
  five false false false false true u v w x y rest = refl
  five false false false false false u v w x y rest = refl

  six : (a b c d e f : Bool) (u v w x y z : A) (rest : Option A)
      → (if a then Some u else if b then Some v else if c then Some w else if d then Some x else if e then Some y else if f then Some z else rest)
      ≡ or_else (if a then Some u else if b then Some v else if c then Some w else if d then Some x else if e then Some y else if f then Some z else None) rest
  six true b c d e f u v w x y z rest = refl
  six false b c d e f u v w x y z rest = five b c d e f v w x y z rest

-- ---- the parts, before other rows

abbrev chars_or : (List Word → Bool) → Option CType → Option CType
chars_or is rest =
    if is (KVoid ∷ []) then Some Void
    else if is (KBool ∷ []) then Some (Int k.Bool)
    else if is (KChar ∷ []) then Some (Int k.Char)
    else if is (KSigned ∷ KChar ∷ []) then Some (Int k.SChar)
    else if is (KUnsigned ∷ KChar ∷ []) then Some (Int k.UChar)
    else rest

chars_are : (is : List Word → Bool) (rest : Option CType) → chars_or is rest ≡ or_else (written_chars is) rest
chars_are is rest = five (is (KVoid ∷ [])) (is (KBool ∷ [])) (is (KChar ∷ [])) (is (KSigned ∷ KChar ∷ [])) (is (KUnsigned ∷ KChar ∷ [])) Void (Int k.Bool) (Int k.Char) (Int k.SChar) (Int k.UChar) rest

abbrev shorts_or : (List Word → Bool) → Option CType → Option CType
shorts_or is rest =
    if is (KShort ∷ []) then Some (Int k.Short)
    else if is (KSigned ∷ KShort ∷ []) then Some (Int k.Short)
    else if is (KShort ∷ KInt ∷ []) then Some (Int k.Short)
    else if is (KSigned ∷ KShort ∷ KInt ∷ []) then Some (Int k.Short)
    else if is (KUnsigned ∷ KShort ∷ []) then Some (Int k.UShort)
    else if is (KUnsigned ∷ KShort ∷ KInt ∷ []) then Some (Int k.UShort)
    else rest

shorts_are : (is : List Word → Bool) (rest : Option CType) → shorts_or is rest ≡ or_else (written_shorts is) rest
shorts_are is rest = six (is (KShort ∷ [])) (is (KSigned ∷ KShort ∷ [])) (is (KShort ∷ KInt ∷ [])) (is (KSigned ∷ KShort ∷ KInt ∷ [])) (is (KUnsigned ∷ KShort ∷ [])) (is (KUnsigned ∷ KShort ∷ KInt ∷ [])) (Int k.Short) (Int k.Short) (Int k.Short) (Int k.Short) (Int k.UShort) (Int k.UShort) rest

abbrev ints_or : (List Word → Bool) → Option CType → Option CType
ints_or is rest =
    if is (KInt ∷ []) then Some (Int k.Int)
    else if is (KSigned ∷ []) then Some (Int k.Int)
    else if is (KSigned ∷ KInt ∷ []) then Some (Int k.Int)
    else if is (KUnsigned ∷ []) then Some (Int k.UInt)
    else if is (KUnsigned ∷ KInt ∷ []) then Some (Int k.UInt)
    else rest

ints_are : (is : List Word → Bool) (rest : Option CType) → ints_or is rest ≡ or_else (written_ints is) rest
ints_are is rest = five (is (KInt ∷ [])) (is (KSigned ∷ [])) (is (KSigned ∷ KInt ∷ [])) (is (KUnsigned ∷ [])) (is (KUnsigned ∷ KInt ∷ [])) (Int k.Int) (Int k.Int) (Int k.Int) (Int k.UInt) (Int k.UInt) rest

abbrev longs_or : (List Word → Bool) → Option CType → Option CType
longs_or is rest =
    if is (KLong ∷ []) then Some (Int k.Long)
    else if is (KSigned ∷ KLong ∷ []) then Some (Int k.Long)
    else if is (KLong ∷ KInt ∷ []) then Some (Int k.Long)
    else if is (KSigned ∷ KLong ∷ KInt ∷ []) then Some (Int k.Long)
    else if is (KUnsigned ∷ KLong ∷ []) then Some (Int k.ULong)
    else if is (KUnsigned ∷ KLong ∷ KInt ∷ []) then Some (Int k.ULong)
    else rest

longs_are : (is : List Word → Bool) (rest : Option CType) → longs_or is rest ≡ or_else (written_longs is) rest
longs_are is rest = six (is (KLong ∷ [])) (is (KSigned ∷ KLong ∷ [])) (is (KLong ∷ KInt ∷ [])) (is (KSigned ∷ KLong ∷ KInt ∷ [])) (is (KUnsigned ∷ KLong ∷ [])) (is (KUnsigned ∷ KLong ∷ KInt ∷ [])) (Int k.Long) (Int k.Long) (Int k.Long) (Int k.Long) (Int k.ULong) (Int k.ULong) rest

abbrev written_with : (List Word → Bool) → List Written → Option CType
written_with is [] = None
written_with is (r ∷ rs) = if is r.words then Some r.type else written_with is rs

by_rows : (xs : List Word) (rs : List Written) → written_in xs rs ≡ written_with (agrees (counted xs)) rs
by_rows xs [] = refl
by_rows xs (r ∷ rs) =
    ap (λ (b : Bool). if b then Some r.type else written_in xs rs) (agrees_is xs r.words)
    ∙ ap (λ o. if agrees (counted xs) r.words then Some r.type else o) (by_rows xs rs)

all_rows : (is : List Word → Bool) → written_with is written_types ≡ written_by is
unfolding written_types
all_rows is =
    chars_are is (shorts_or is (ints_or is (longs_or is (written_long_longs is))))
    ∙ ap (or_else (written_chars is)) (shorts_are is (ints_or is (longs_or is (written_long_longs is)))
    ∙ ap (or_else (written_shorts is)) (ints_are is (longs_or is (written_long_longs is))
    ∙ ap (or_else (written_ints is)) (longs_are is (written_long_longs is))))

pub written_is : (xs : List Word) → written_in xs written_types ≡ written_by (agrees (counted xs))
written_is xs = by_rows xs written_types ∙ all_rows (agrees (counted xs))
