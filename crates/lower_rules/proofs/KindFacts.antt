-- Facts on integer kinds.
use Rattle.std.proofs.Common.{◌≡◌, ℕ, zero, suc, ◌<◌, pos, negsuc, ℤ, Bool, true, false, refl, sym, ◌∙◌, ap, arith}
use Rattle.std.specs.Prelude.{if◌then◌else◌, unsigned_abs, ◌^◌}
use Rattle.std.specs.Int.{int_rem_euclid}
use Rattle.std.proofs.lemmas.Bool.Decides.{Decides-eqb}
use Rattle.num_ops.specs.declared.kinds.IntKind.{IntKind}
use Rattle.num_ops.specs.declared.kinds.IntKind.TheVariants as k
use Rattle.num_ops.specs.Conversions.{promoted, common_kind, converted, wrapped, bits_of, from_bits, is_zero}
use Rattle.num_ops.specs.Kinds.{holds, width}
use Rattle.c_core.specs.declared.values.Scalar.{Scalar}
use Rattle.c_core.specs.declared.values.Scalar.TheVariants as scalar
use Rattle.c_core.specs.Sorts.{same_kind, same_scalar, kind_number}

-- the kind with a number
kind_at : ℕ → IntKind
kind_at zero = k.Bool
kind_at (suc zero) = k.Char
kind_at (suc (suc zero)) = k.SChar
kind_at (suc (suc (suc zero))) = k.UChar
kind_at (suc (suc (suc (suc zero)))) = k.Short
kind_at (suc (suc (suc (suc (suc zero))))) = k.UShort
kind_at (suc (suc (suc (suc (suc (suc zero)))))) = k.Int
kind_at (suc (suc (suc (suc (suc (suc (suc zero))))))) = k.UInt
kind_at (suc (suc (suc (suc (suc (suc (suc (suc zero)))))))) = k.Long
kind_at (suc (suc (suc (suc (suc (suc (suc (suc (suc zero))))))))) = k.ULong
kind_at (suc (suc (suc (suc (suc (suc (suc (suc (suc (suc zero)))))))))) = k.LongLong
kind_at n = k.ULongLong

number_of_kind : (a : IntKind) → kind_at (kind_number a) ≡ a
unfolding kind_at
number_of_kind k.Bool = refl
number_of_kind k.Char = refl
number_of_kind k.SChar = refl
number_of_kind k.UChar = refl
number_of_kind k.Short = refl
number_of_kind k.UShort = refl
number_of_kind k.Int = refl
number_of_kind k.UInt = refl
number_of_kind k.Long = refl
number_of_kind k.ULong = refl
number_of_kind k.LongLong = refl
number_of_kind k.ULongLong = refl

pub kinds_are_one : (a b : IntKind) → same_kind a b ≡ true → a ≡ b
kinds_are_one a b h =
    let e : kind_number a ≡ kind_number b = (Decides-eqb (kind_number a) (kind_number b)).0 h in
    sym (number_of_kind a) ∙ ap kind_at e ∙ number_of_kind b

pub same_kind_self : (kind : IntKind) → same_kind kind kind ≡ true
same_kind_self k.Bool = refl
same_kind_self k.Char = refl
same_kind_self k.SChar = refl
same_kind_self k.UChar = refl
same_kind_self k.Short = refl
same_kind_self k.UShort = refl
same_kind_self k.Int = refl
same_kind_self k.UInt = refl
same_kind_self k.Long = refl
same_kind_self k.ULong = refl
same_kind_self k.LongLong = refl
same_kind_self k.ULongLong = refl

pub same_scalar_self : (s : Scalar) → same_scalar s s ≡ true
same_scalar_self (scalar.Int kind) = same_kind_self kind
same_scalar_self scalar.Ptr = refl

-- the promotions of a promoted kind change nothing, nor of a common one
pub promoted_stays : (a : IntKind) → same_kind (promoted (promoted a)) (promoted a) ≡ true
promoted_stays k.Bool = refl
promoted_stays k.Char = refl
promoted_stays k.SChar = refl
promoted_stays k.UChar = refl
promoted_stays k.Short = refl
promoted_stays k.UShort = refl
promoted_stays k.Int = refl
promoted_stays k.UInt = refl
promoted_stays k.Long = refl
promoted_stays k.ULong = refl
promoted_stays k.LongLong = refl
promoted_stays k.ULongLong = refl

pub common_stays : (a b : IntKind) → same_kind (promoted (common_kind a b)) (common_kind a b) ≡ true
common_stays k.Bool k.Bool = refl
common_stays k.Bool k.Char = refl
common_stays k.Bool k.SChar = refl
common_stays k.Bool k.UChar = refl
common_stays k.Bool k.Short = refl
common_stays k.Bool k.UShort = refl
common_stays k.Bool k.Int = refl
common_stays k.Bool k.UInt = refl
common_stays k.Bool k.Long = refl
common_stays k.Bool k.ULong = refl
common_stays k.Bool k.LongLong = refl
common_stays k.Bool k.ULongLong = refl
common_stays k.Char k.Bool = refl
common_stays k.Char k.Char = refl
common_stays k.Char k.SChar = refl
common_stays k.Char k.UChar = refl
common_stays k.Char k.Short = refl
common_stays k.Char k.UShort = refl
common_stays k.Char k.Int = refl
common_stays k.Char k.UInt = refl
common_stays k.Char k.Long = refl
common_stays k.Char k.ULong = refl
common_stays k.Char k.LongLong = refl
common_stays k.Char k.ULongLong = refl
common_stays k.SChar k.Bool = refl
common_stays k.SChar k.Char = refl
common_stays k.SChar k.SChar = refl
common_stays k.SChar k.UChar = refl
common_stays k.SChar k.Short = refl
common_stays k.SChar k.UShort = refl
common_stays k.SChar k.Int = refl
common_stays k.SChar k.UInt = refl
common_stays k.SChar k.Long = refl
common_stays k.SChar k.ULong = refl
common_stays k.SChar k.LongLong = refl
common_stays k.SChar k.ULongLong = refl
common_stays k.UChar k.Bool = refl
common_stays k.UChar k.Char = refl
common_stays k.UChar k.SChar = refl
common_stays k.UChar k.UChar = refl
common_stays k.UChar k.Short = refl
common_stays k.UChar k.UShort = refl
common_stays k.UChar k.Int = refl
common_stays k.UChar k.UInt = refl
common_stays k.UChar k.Long = refl
common_stays k.UChar k.ULong = refl
common_stays k.UChar k.LongLong = refl
common_stays k.UChar k.ULongLong = refl
common_stays k.Short k.Bool = refl
common_stays k.Short k.Char = refl
common_stays k.Short k.SChar = refl
common_stays k.Short k.UChar = refl
common_stays k.Short k.Short = refl
common_stays k.Short k.UShort = refl
common_stays k.Short k.Int = refl
common_stays k.Short k.UInt = refl
common_stays k.Short k.Long = refl
common_stays k.Short k.ULong = refl
common_stays k.Short k.LongLong = refl
common_stays k.Short k.ULongLong = refl
common_stays k.UShort k.Bool = refl
common_stays k.UShort k.Char = refl
common_stays k.UShort k.SChar = refl
common_stays k.UShort k.UChar = refl
common_stays k.UShort k.Short = refl
common_stays k.UShort k.UShort = refl
common_stays k.UShort k.Int = refl
common_stays k.UShort k.UInt = refl
common_stays k.UShort k.Long = refl
common_stays k.UShort k.ULong = refl
common_stays k.UShort k.LongLong = refl
common_stays k.UShort k.ULongLong = refl
common_stays k.Int k.Bool = refl
common_stays k.Int k.Char = refl
common_stays k.Int k.SChar = refl
common_stays k.Int k.UChar = refl
common_stays k.Int k.Short = refl
common_stays k.Int k.UShort = refl
common_stays k.Int k.Int = refl
common_stays k.Int k.UInt = refl
common_stays k.Int k.Long = refl
common_stays k.Int k.ULong = refl
common_stays k.Int k.LongLong = refl
common_stays k.Int k.ULongLong = refl
common_stays k.UInt k.Bool = refl
common_stays k.UInt k.Char = refl
common_stays k.UInt k.SChar = refl
common_stays k.UInt k.UChar = refl
common_stays k.UInt k.Short = refl
common_stays k.UInt k.UShort = refl
common_stays k.UInt k.Int = refl
common_stays k.UInt k.UInt = refl
common_stays k.UInt k.Long = refl
common_stays k.UInt k.ULong = refl
common_stays k.UInt k.LongLong = refl
common_stays k.UInt k.ULongLong = refl
common_stays k.Long k.Bool = refl
common_stays k.Long k.Char = refl
common_stays k.Long k.SChar = refl
common_stays k.Long k.UChar = refl
common_stays k.Long k.Short = refl
common_stays k.Long k.UShort = refl
common_stays k.Long k.Int = refl
common_stays k.Long k.UInt = refl
common_stays k.Long k.Long = refl
common_stays k.Long k.ULong = refl
common_stays k.Long k.LongLong = refl
common_stays k.Long k.ULongLong = refl
common_stays k.ULong k.Bool = refl
common_stays k.ULong k.Char = refl
common_stays k.ULong k.SChar = refl
common_stays k.ULong k.UChar = refl
common_stays k.ULong k.Short = refl
common_stays k.ULong k.UShort = refl
common_stays k.ULong k.Int = refl
common_stays k.ULong k.UInt = refl
common_stays k.ULong k.Long = refl
common_stays k.ULong k.ULong = refl
common_stays k.ULong k.LongLong = refl
common_stays k.ULong k.ULongLong = refl
common_stays k.LongLong k.Bool = refl
common_stays k.LongLong k.Char = refl
common_stays k.LongLong k.SChar = refl
common_stays k.LongLong k.UChar = refl
common_stays k.LongLong k.Short = refl
common_stays k.LongLong k.UShort = refl
common_stays k.LongLong k.Int = refl
common_stays k.LongLong k.UInt = refl
common_stays k.LongLong k.Long = refl
common_stays k.LongLong k.ULong = refl
common_stays k.LongLong k.LongLong = refl
common_stays k.LongLong k.ULongLong = refl
common_stays k.ULongLong k.Bool = refl
common_stays k.ULongLong k.Char = refl
common_stays k.ULongLong k.SChar = refl
common_stays k.ULongLong k.UChar = refl
common_stays k.ULongLong k.Short = refl
common_stays k.ULongLong k.UShort = refl
common_stays k.ULongLong k.Int = refl
common_stays k.ULongLong k.UInt = refl
common_stays k.ULongLong k.Long = refl
common_stays k.ULongLong k.ULong = refl
common_stays k.ULongLong k.LongLong = refl
common_stays k.ULongLong k.ULongLong = refl

-- ---- a converted number is one that the kind has

below : (z : ℤ) (m : ℕ) → 0 < m → unsigned_abs (int_rem_euclid z (pos m)) < m
below (pos n) m h = grind arith
below (negsuc n) m h = grind arith

bits_held : (kind : IntKind) (n : ℕ) → n < 2 ^ width kind → holds kind (from_bits kind n) ≡ true
bits_held k.Bool n h = grind arith
bits_held k.Char n h = grind arith
bits_held k.SChar n h = grind arith
bits_held k.UChar n h = grind arith
bits_held k.Short n h = grind arith
bits_held k.UShort n h = grind arith
bits_held k.Int n h = grind arith
bits_held k.UInt n h = grind arith
bits_held k.Long n h = grind arith
bits_held k.ULong n h = grind arith
bits_held k.LongLong n h = grind arith
bits_held k.ULongLong n h = grind arith

wrapped_held : (kind : IntKind) (z : ℤ) → 0 < 2 ^ width kind → holds kind (wrapped kind z) ≡ true
wrapped_held kind z h = bits_held kind (bits_of kind z) (below z (2 ^ width kind) h)

fitted_by : (kind : IntKind) (z : ℤ) (b : Bool) → holds kind z ≡ b → 0 < 2 ^ width kind → holds kind (if b then z else wrapped kind z) ≡ true
fitted_by kind z true e h = e
fitted_by kind z false e h = wrapped_held kind z h

truth_held : (b : Bool) → holds k.Bool (if b then pos 0 else pos 1) ≡ true
truth_held true = refl
truth_held false = refl

pub converted_held : (kind : IntKind) (z : ℤ) → holds kind (converted kind z) ≡ true
converted_held k.Bool z = truth_held (is_zero z)
converted_held k.Char z = fitted_by k.Char z (holds k.Char z) refl (omega arith)
converted_held k.SChar z = fitted_by k.SChar z (holds k.SChar z) refl (omega arith)
converted_held k.UChar z = fitted_by k.UChar z (holds k.UChar z) refl (omega arith)
converted_held k.Short z = fitted_by k.Short z (holds k.Short z) refl (omega arith)
converted_held k.UShort z = fitted_by k.UShort z (holds k.UShort z) refl (omega arith)
converted_held k.Int z = fitted_by k.Int z (holds k.Int z) refl (omega arith)
converted_held k.UInt z = fitted_by k.UInt z (holds k.UInt z) refl (omega arith)
converted_held k.Long z = fitted_by k.Long z (holds k.Long z) refl (omega arith)
converted_held k.ULong z = fitted_by k.ULong z (holds k.ULong z) refl (omega arith)
converted_held k.LongLong z = fitted_by k.LongLong z (holds k.LongLong z) refl (omega arith)
converted_held k.ULongLong z = fitted_by k.ULongLong z (holds k.ULongLong z) refl (omega arith)
