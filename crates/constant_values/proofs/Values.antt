-- What the code computes, as the definitions say it.
use Rattle.std.proofs.Common.{◌≡◌, Bool, true, false, if◌then◌else◌, ℕ, ◌-◌, ◌%◌, ◌<◌, ◌≤◌, ◌^◌, ℤ, pos, negsuc, ◌-ℤ◌, ◌*ℤ◌, ◌≤ℤ◌, ◌<ℤ◌, FitsSigned, Result, Ok, Err, arith, refl, ◌∙◌}
use Rattle.std.specs.Int.{w128, int_div_euclid, int_rem_euclid}
use Rattle.std.specs.Prelude.{int_le, unsigned_abs}
use Rattle.std.proofs.lemmas.Int.{ints, fits_signed_mul}
use Rattle.std.proofs.Math.Nat.{div-le_self, mod-eq_of_lt}
use Rattle.num_ops.specs.declared.kinds.IntKind.{IntKind}
use Rattle.num_ops.specs.declared.kinds.IntKind.TheVariants as k
use Rattle.num_ops.specs.declared.arithmetic.Op.TheVariants as op
use Rattle.num_ops.specs.declared.arithmetic.Undefined.{Undefined}
use Rattle.num_ops.specs.Kinds.{width, greatest, holds}
use Rattle.num_ops.specs.Conversions.{bits_of, wrapped, converted, promoted}
use Rattle.num_ops.specs.Arithmetic.{arithmetic, outcome}
use Rattle.c_rules.specs.Typed.{Constant}
use Rattle.c_rules.specs.Constants.{constant_from}
use Rattle.constant_values.specs.Constants.{IsBounded}
use Rattle.constant_values.specs.Forms.{of_result}

pub outcome_is : (kind : IntKind) (r : Result ℤ Undefined) → of_result (outcome kind r) ≡ constant_from r
outcome_is kind (Ok z) = refl
outcome_is kind (Err cause) = refl

-- ---- what fits 128 bits

abs_bound : (z : ℤ) → negsuc 9223372036854775807 ≤ℤ z → z <ℤ pos 18446744073709551616 → unsigned_abs z ≤ 18446744073709551615
abs_bound (pos n) l h = omega (arith, ints)
abs_bound (negsuc n) l h = omega (arith, ints)

pub bounded_abs : (z : ℤ) → IsBounded z → unsigned_abs z ≤ 18446744073709551615
bounded_abs z b = abs_bound z b.low b.high

power_abs : (p : ℤ) → pos 0 <ℤ p → p ≤ℤ pos (2 ^ 63) → unsigned_abs p ≤ 9223372036854775808
power_abs (pos n) l h = omega (arith, ints)
power_abs (negsuc n) l h = absurd (omega (arith, ints))

pub power_fits : (a p : ℤ) → IsBounded a → pos 0 <ℤ p → p ≤ℤ pos (2 ^ 63) → FitsSigned w128 (a *ℤ p)
power_fits a p b l h = fits_signed_mul w128 a p 18446744073709551615 9223372036854775808 (bounded_abs a b) (power_abs p l h) (omega arith)

pub minus_fits : (a : ℤ) → IsBounded a → FitsSigned w128 (pos 0 -ℤ a)
minus_fits a b = omega (arith, ints, b.low, b.high)

pub bounded_quotient : (a p : ℤ) → IsBounded a → pos 0 <ℤ p → IsBounded (int_div_euclid a p)
bounded_quotient (pos n) (pos p) b l = record { low = omega (arith, ints); high = omega (arith, ints, div-le_self n p, b.high) }
bounded_quotient (negsuc n) (pos p) b l = record { low = omega (arith, ints, div-le_self n p, b.low); high = omega (arith, ints) }
bounded_quotient a (negsuc p) b l = absurd (omega (arith, ints))

-- ---- the bits of a value are those of what it is converted to

back_low : (n m : ℕ) → n < m → unsigned_abs (int_rem_euclid (pos n) (pos m)) ≡ n
back_low n m h = grind arith

minus_is : (n m : ℕ) → n < m → pos n -ℤ pos m ≡ negsuc (m - n - 1)
minus_is n m h = omega (arith, ints)

back_rest : (n m : ℕ) → n < m → m - 1 - (m - n - 1) % m ≡ n
back_rest n m h =
    let less : m - n - 1 < m = omega arith in
    rw (mod-eq_of_lt less) (omega arith)

back_past : (n m : ℕ) → n < m → unsigned_abs (int_rem_euclid (pos n -ℤ pos m) (pos m)) ≡ n
back_past n m h = rw (minus_is n m h) (back_rest n m h)

below : (z : ℤ) (m : ℕ) → 0 < m → unsigned_abs (int_rem_euclid z (pos m)) < m
below (pos n) m h = grind arith
below (negsuc n) m h = grind arith

back_cases : (b : Bool) (n m : ℕ) → n < m → unsigned_abs (int_rem_euclid (if b then pos n else (pos n -ℤ pos m)) (pos m)) ≡ n
back_cases true n m h = back_low n m h
back_cases false n m h = back_past n m h

bits_wrapped : (kind : IntKind) (z : ℤ) → 0 < 2 ^ width kind → bits_of kind (wrapped kind z) ≡ bits_of kind z
bits_wrapped kind z h =
    back_cases (int_le (pos (bits_of kind z)) (greatest kind)) (bits_of kind z) (2 ^ width kind) (below z (2 ^ width kind) h)

bits_chosen : (b : Bool) (kind : IntKind) (z : ℤ) → 0 < 2 ^ width kind → bits_of kind (if b then z else wrapped kind z) ≡ bits_of kind z
bits_chosen true kind z h = refl
bits_chosen false kind z h = bits_wrapped kind z h

pub bits_converted : (kind : IntKind) (z : ℤ) → bits_of (promoted kind) (converted (promoted kind) z) ≡ bits_of (promoted kind) z
bits_converted k.Bool z = bits_chosen (holds k.Int z) k.Int z (omega arith)
bits_converted k.Char z = bits_chosen (holds k.Int z) k.Int z (omega arith)
bits_converted k.SChar z = bits_chosen (holds k.Int z) k.Int z (omega arith)
bits_converted k.UChar z = bits_chosen (holds k.Int z) k.Int z (omega arith)
bits_converted k.Short z = bits_chosen (holds k.Int z) k.Int z (omega arith)
bits_converted k.UShort z = bits_chosen (holds k.Int z) k.Int z (omega arith)
bits_converted k.Int z = bits_chosen (holds k.Int z) k.Int z (omega arith)
bits_converted k.UInt z = bits_chosen (holds k.UInt z) k.UInt z (omega arith)
bits_converted k.Long z = bits_chosen (holds k.Long z) k.Long z (omega arith)
bits_converted k.ULong z = bits_chosen (holds k.ULong z) k.ULong z (omega arith)
bits_converted k.LongLong z = bits_chosen (holds k.LongLong z) k.LongLong z (omega arith)
bits_converted k.ULongLong z = bits_chosen (holds k.ULongLong z) k.ULongLong z (omega arith)

complement_is : (kind : IntKind) (z : ℤ) → constant_from (arithmetic op.BitXor (promoted kind) (converted (promoted kind) z) (converted (promoted kind) (negsuc 0))) ≡ constant_from (arithmetic op.BitXor (promoted kind) z (converted (promoted kind) (negsuc 0)))
complement_is kind z = rw (bits_converted kind z) refl

pub complement_result : (kind q : IntKind) (z : ℤ) (r : Constant) → q ≡ promoted kind → r ≡ constant_from (arithmetic op.BitXor q (converted q z) (converted q (negsuc 0))) → r ≡ constant_from (arithmetic op.BitXor (promoted kind) z (converted (promoted kind) (negsuc 0)))
complement_result kind q z r e h = (rw e at h) ∙ complement_is kind z
