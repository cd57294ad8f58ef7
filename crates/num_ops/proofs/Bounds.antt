-- Values of the twelve kinds, and what the operators make of them, fit 128 bits.
use Rattle.std.proofs.Common.{◌≡◌, Bool, true, false, ◌&&◌, if◌then◌else◌, IsTrue, ℕ, zero, suc, ◌-◌, ◌*◌, ◌/◌, ◌%◌, ◌<◌, ◌≤◌, ◌^◌, ℤ, pos, negsuc, neg_ℤ, ◌+ℤ◌, ◌-ℤ◌, ◌*ℤ◌, ◌≤ℤ◌, ◌<ℤ◌, FitsSigned, of_z, Result, Ok, arith, refl, ap, sym}
use Rattle.std.specs.Int.{w128, int_div_euclid}
use Rattle.std.specs.Int.Signed.{le_z_yes}
use Rattle.std.specs.Prelude.{int_le, int_div, int_rem, unsigned_abs}
use Rattle.std.proofs.lemmas.Nat.{pow_pos}
use Rattle.std.proofs.lemmas.Int.{ints, fits_signed_mul, fits_signed_from_abs}
use Rattle.std.proofs.Math.Nat.{div-le_self, mod-le, mod-eq_of_lt}
use Rattle.num_ops.specs.declared.kinds.IntKind.{IntKind}
use Rattle.num_ops.specs.declared.kinds.IntKind.TheVariants as k
use Rattle.num_ops.specs.declared.arithmetic.Undefined.{Undefined}
use Rattle.num_ops.specs.Kinds.{holds, is_signed, least, greatest, width}
use Rattle.num_ops.specs.Conversions.{is_zero, wrapped}
use Rattle.num_ops.specs.Arithmetic.{fitted}

-- at most 64 bits
pub holds_low : (kind : IntKind) (z : ℤ) → IsTrue (holds kind z) → negsuc 9223372036854775807 ≤ℤ z
holds_low k.Bool z h = grind (arith, ints)
holds_low k.Char z h = grind (arith, ints)
holds_low k.SChar z h = grind (arith, ints)
holds_low k.UChar z h = grind (arith, ints)
holds_low k.Short z h = grind (arith, ints)
holds_low k.UShort z h = grind (arith, ints)
holds_low k.Int z h = grind (arith, ints)
holds_low k.UInt z h = grind (arith, ints)
holds_low k.Long z h = grind (arith, ints)
holds_low k.ULong z h = grind (arith, ints)
holds_low k.LongLong z h = grind (arith, ints)
holds_low k.ULongLong z h = grind (arith, ints)

pub holds_high : (kind : IntKind) (z : ℤ) → IsTrue (holds kind z) → z <ℤ pos 18446744073709551616
holds_high k.Bool z h = grind (arith, ints)
holds_high k.Char z h = grind (arith, ints)
holds_high k.SChar z h = grind (arith, ints)
holds_high k.UChar z h = grind (arith, ints)
holds_high k.Short z h = grind (arith, ints)
holds_high k.UShort z h = grind (arith, ints)
holds_high k.Int z h = grind (arith, ints)
holds_high k.UInt z h = grind (arith, ints)
holds_high k.Long z h = grind (arith, ints)
holds_high k.ULong z h = grind (arith, ints)
holds_high k.LongLong z h = grind (arith, ints)
holds_high k.ULongLong z h = grind (arith, ints)

abs_bound : (z : ℤ) → negsuc 9223372036854775807 ≤ℤ z → z <ℤ pos 18446744073709551616 → unsigned_abs z ≤ 18446744073709551615
abs_bound (pos n) l h = omega (arith, ints)
abs_bound (negsuc n) l h = omega (arith, ints)

pub holds_abs : (kind : IntKind) (z : ℤ) → IsTrue (holds kind z) → unsigned_abs z ≤ 18446744073709551615
holds_abs kind z h = abs_bound z (holds_low kind z h) (holds_high kind z h)

pub sum_fits : (kind : IntKind) (a b : ℤ) → IsTrue (holds kind a) → IsTrue (holds kind b) → FitsSigned w128 (a +ℤ b)
sum_fits kind a b h i = omega (arith, ints, holds_low kind a h, holds_high kind a h, holds_low kind b i, holds_high kind b i)

pub difference_fits : (kind : IntKind) (a b : ℤ) → IsTrue (holds kind a) → IsTrue (holds kind b) → FitsSigned w128 (a -ℤ b)
difference_fits kind a b h i = omega (arith, ints, holds_low kind a h, holds_high kind a h, holds_low kind b i, holds_high kind b i)

-- a signed value has 63 bits and its sign
pub signed_abs : (kind : IntKind) (z : ℤ) → is_signed kind ≡ true → IsTrue (holds kind z) → unsigned_abs z ≤ 9223372036854775808
signed_abs k.Bool z s h = cc
signed_abs k.Char (pos n) s h = grind (arith, ints)
signed_abs k.Char (negsuc n) s h = grind (arith, ints)
signed_abs k.SChar (pos n) s h = grind (arith, ints)
signed_abs k.SChar (negsuc n) s h = grind (arith, ints)
signed_abs k.UChar z s h = cc
signed_abs k.Short (pos n) s h = grind (arith, ints)
signed_abs k.Short (negsuc n) s h = grind (arith, ints)
signed_abs k.UShort z s h = cc
signed_abs k.Int (pos n) s h = grind (arith, ints)
signed_abs k.Int (negsuc n) s h = grind (arith, ints)
signed_abs k.UInt z s h = cc
signed_abs k.Long (pos n) s h = grind (arith, ints)
signed_abs k.Long (negsuc n) s h = grind (arith, ints)
signed_abs k.ULong z s h = cc
signed_abs k.LongLong (pos n) s h = grind (arith, ints)
signed_abs k.LongLong (negsuc n) s h = grind (arith, ints)
signed_abs k.ULongLong z s h = cc

pub product_fits : (kind : IntKind) (a b : ℤ) → is_signed kind ≡ true → IsTrue (holds kind a) → IsTrue (holds kind b) → FitsSigned w128 (a *ℤ b)
product_fits kind a b s h i = fits_signed_mul w128 a b 9223372036854775808 9223372036854775808 (signed_abs kind a s h) (signed_abs kind b s i) (omega arith)

abs-neg : (n : ℕ) → unsigned_abs (neg_ℤ (pos n)) ≡ n
abs-neg zero = refl
abs-neg (suc n) = refl

-- a quotient is no further from 0 than the dividend
quotient_abs : (a b : ℤ) → unsigned_abs (int_div a b) ≤ unsigned_abs a
quotient_abs (pos a) (pos b) = div-le_self a b
quotient_abs (pos a) (negsuc b) = rw (abs-neg (a / suc b)) (div-le_self a (suc b))
quotient_abs (negsuc a) (pos b) = rw (abs-neg (suc a / b)) (div-le_self (suc a) b)
quotient_abs (negsuc a) (negsuc b) = div-le_self (suc a) (suc b)

pub quotient_fits : (kind : IntKind) (a b : ℤ) → IsTrue (holds kind a) → FitsSigned w128 (int_div a b)
quotient_fits kind a b h = fits_signed_from_abs w128 (int_div a b) (omega (arith, quotient_abs a b, holds_abs kind a h))

-- the zero test of the code and of the definition
pub not_zero : (b : ℤ) → FitsSigned w128 b → (of_z w128 b ≡ 0 → ⊥) → is_zero b ≡ false
not_zero (pos zero) f h = absurd (h refl)
not_zero (pos (suc n)) f h = grind arith
not_zero (negsuc n) f h = grind arith

least_low : (kind : IntKind) → least kind ≤ℤ pos 0
least_low k.Bool = le_z_yes tt
least_low k.Char = le_z_yes tt
least_low k.SChar = le_z_yes tt
least_low k.UChar = le_z_yes tt
least_low k.Short = le_z_yes tt
least_low k.UShort = le_z_yes tt
least_low k.Int = le_z_yes tt
least_low k.UInt = le_z_yes tt
least_low k.Long = le_z_yes tt
least_low k.ULong = le_z_yes tt
least_low k.LongLong = le_z_yes tt
least_low k.ULongLong = le_z_yes tt

greatest_high : (kind : IntKind) → pos 0 ≤ℤ greatest kind
greatest_high k.Bool = le_z_yes tt
greatest_high k.Char = le_z_yes tt
greatest_high k.SChar = le_z_yes tt
greatest_high k.UChar = le_z_yes tt
greatest_high k.Short = le_z_yes tt
greatest_high k.UShort = le_z_yes tt
greatest_high k.Int = le_z_yes tt
greatest_high k.UInt = le_z_yes tt
greatest_high k.Long = le_z_yes tt
greatest_high k.ULong = le_z_yes tt
greatest_high k.LongLong = le_z_yes tt
greatest_high k.ULongLong = le_z_yes tt

-- what lies between 0 and a value is a value
nearer_up : (l g : ℤ) (n m : ℕ) → l ≤ℤ pos 0 → IsTrue (int_le l (pos n) && int_le (pos n) g) → m ≤ n → IsTrue (int_le l (pos m) && int_le (pos m) g)
nearer_up l g n m low h le = grind (arith, ints)

nearer_down : (l g : ℤ) (n m : ℕ) → pos 0 ≤ℤ g → IsTrue (int_le l (negsuc n) && int_le (negsuc n) g) → m ≤ n → IsTrue (int_le l (negsuc m) && int_le (negsuc m) g)
nearer_down l g n m high h le = grind (arith, ints)

zero_between : (l g : ℤ) → l ≤ℤ pos 0 → pos 0 ≤ℤ g → IsTrue (int_le l (pos 0) && int_le (pos 0) g)
zero_between l g low high = grind (arith, ints)

holds_zero : (kind : IntKind) → IsTrue (holds kind (pos 0))
holds_zero kind = zero_between (least kind) (greatest kind) (least_low kind) (greatest_high kind)

holds_neg : (kind : IntKind) (n m : ℕ) → IsTrue (holds kind (negsuc n)) → m ≤ suc n → IsTrue (holds kind (neg_ℤ (pos m)))
holds_neg kind n zero h le = holds_zero kind
holds_neg kind n (suc m) h le = nearer_down (least kind) (greatest kind) n m (greatest_high kind) h (omega arith)

pub holds_rest : (kind : IntKind) (a b : ℤ) → IsTrue (holds kind a) → IsTrue (holds kind (int_rem a b))
holds_rest kind (pos n) b h = nearer_up (least kind) (greatest kind) n (n % unsigned_abs b) (least_low kind) h (mod-le n (unsigned_abs b))
holds_rest kind (negsuc n) b h = holds_neg kind n (suc n % unsigned_abs b) h (mod-le (suc n) (unsigned_abs b))

holds_quotient : (kind : IntKind) (a : ℤ) (p : ℕ) → IsTrue (holds kind a) → IsTrue (holds kind (int_div_euclid a (pos p)))
holds_quotient kind (pos n) p h = nearer_up (least kind) (greatest kind) n (n / p) (least_low kind) h (div-le_self n p)
holds_quotient kind (negsuc n) p h = nearer_down (least kind) (greatest kind) n (n / p) (greatest_high kind) h (div-le_self n p)

pub holds_shifted : (kind : IntKind) (a p : ℤ) → IsTrue (holds kind a) → pos 0 <ℤ p → IsTrue (holds kind (int_div_euclid a p))
holds_shifted kind a (pos p) h l = holds_quotient kind a p h
holds_shifted kind a (negsuc p) h l = absurd (omega (arith, ints))

pub rest_fits : (kind : IntKind) (a b : ℤ) → IsTrue (holds kind a) → FitsSigned w128 (int_rem a b)
rest_fits kind a b h = fits_signed_from_abs w128 (int_rem a b) (omega (arith, holds_abs kind (int_rem a b) (holds_rest kind a b h)))

-- the product that a left shift makes
power_abs : (p : ℤ) → pos 0 <ℤ p → p ≤ℤ pos (2 ^ 63) → unsigned_abs p ≤ 9223372036854775808
power_abs (pos n) l h = omega (arith, ints)
power_abs (negsuc n) l h = absurd (omega (arith, ints))

pub power_fits : (kind : IntKind) (a p : ℤ) → IsTrue (holds kind a) → pos 0 <ℤ p → p ≤ℤ pos (2 ^ 63) → FitsSigned w128 (a *ℤ p)
power_fits kind a p h l g = fits_signed_mul w128 a p 18446744073709551615 9223372036854775808 (holds_abs kind a h) (power_abs p l g) (omega arith)

-- an unsigned value is what is left of it
least_unsigned : (kind : IntKind) → is_signed kind ≡ false → least kind ≡ pos 0
least_unsigned kind s = rw s refl

not_below_zero : (l g : ℤ) (n : ℕ) → l ≡ pos 0 → IsTrue (int_le l (negsuc n) && int_le (negsuc n) g) → ⊥
not_below_zero l g n e h = let f = rw e at h in cc

pub not_negative : (kind : IntKind) (n : ℕ) → is_signed kind ≡ false → IsTrue (holds kind (negsuc n)) → ⊥
not_negative kind n s h = not_below_zero (least kind) (greatest kind) n (least_unsigned kind s) h

below_count : (l g : ℤ) (n m : ℕ) → 0 < m → g ≡ pos (m - 1) → IsTrue (int_le l (pos n) && int_le (pos n) g) → n < m
below_count l g n m z e h = let f = rw e at h in grind (arith, ints)

from_low_bits : (n m : ℕ) (x : ℤ) → n < m → (if int_le (pos n) (pos (m - 1)) then pos n else x) ≡ pos n
from_low_bits n m x h = grind (arith, ints)

count_positive : (kind : IntKind) → 0 < 2 ^ width kind
count_positive kind = pow_pos (width kind)

wrapped_holds : (kind : IntKind) (z : ℤ) → is_signed kind ≡ false → IsTrue (holds kind z) → wrapped kind z ≡ z
wrapped_holds kind (negsuc n) s h = absurd (not_negative kind n s h)
wrapped_holds kind (pos n) s h =
    let greatest_is : greatest kind ≡ pos (2 ^ width kind - 1) = rw s refl in
    let below : n < 2 ^ width kind = below_count (least kind) (greatest kind) n (2 ^ width kind) (count_positive kind) greatest_is h in
    rw (mod-eq_of_lt below, s) (from_low_bits n (2 ^ width kind) _ below)

pub unsigned_product : (kind : IntKind) (a b : ℤ) → is_signed kind ≡ false → IsTrue (holds kind a) → IsTrue (holds kind b) → pos (unsigned_abs a * unsigned_abs b) ≡ a *ℤ b
unsigned_product kind (pos n) (pos m) s h i = refl
unsigned_product kind (negsuc n) b s h i = absurd (not_negative kind n s h)
unsigned_product kind (pos n) (negsuc m) s h i = absurd (not_negative kind m s i)

fitted_cases : (kind : IntKind) (z : ℤ) (b : Bool) → holds kind z ≡ b → is_signed kind ≡ false → fitted kind z ≡ Ok (wrapped kind z)
fitted_cases kind z true h s = rw h (ap (λ (x : ℤ). let r : Result ℤ Undefined = Ok x in r) (sym (wrapped_holds kind z s h)))
fitted_cases kind z false h s = rw (h, s) refl

pub fitted_unsigned : (kind : IntKind) (z : ℤ) → is_signed kind ≡ false → fitted kind z ≡ Ok (wrapped kind z)
fitted_unsigned kind z s = fitted_cases kind z (holds kind z) refl s
