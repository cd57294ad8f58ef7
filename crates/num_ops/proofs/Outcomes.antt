-- Outcomes by their cases.
use Rattle.std.proofs.Common.{◌≡◌, Bool, true, false, ◌&&◌, if◌then◌else◌, ℕ, ℤ, pos, negsuc, ◌*ℤ◌, Result, Ok, Err, arith, refl, ap, sym, ◌∙◌, to_z, ◌^◌}
use Rattle.std.specs.Int.{w128, int_div_euclid}
use Rattle.std.specs.Prelude.{int_le, int_lt, unsigned_abs}
use Rattle.std.proofs.lemmas.Int.{ints}
use Rattle.num_ops.specs.declared.kinds.IntKind.{IntKind}
use Rattle.num_ops.specs.declared.kinds.IntKind.TheVariants as k
use Rattle.num_ops.specs.declared.arithmetic.Undefined.{Undefined}
use Rattle.num_ops.specs.declared.arithmetic.Undefined.TheVariants as undefined
use Rattle.num_ops.specs.Numbers.{Number}
use Rattle.num_ops.specs.Kinds.{holds, is_signed, width}
use Rattle.num_ops.specs.Conversions.{wrapped}
use Rattle.num_ops.specs.Arithmetic.{outcome, shifted_left, shifted, is_count}

pub ok_outcome : (kind : IntKind) (z : ℤ) (r : Number) (o : Result ℤ Undefined) → r ≡ record { kind = kind; value = z } → o ≡ Ok z → Ok r ≡ outcome kind o
ok_outcome kind z r o e f = rw (f, e) refl

pub err_outcome : (kind : IntKind) (cause : Undefined) (o : Result ℤ Undefined) → o ≡ Err cause → Err cause ≡ outcome kind o
err_outcome kind cause o f = rw f refl

first_of_three : {A : Type 0} (s l h : Bool) (x y z : A) → s ≡ true → l ≡ true → h ≡ true → (if s then (if l && h then x else y) else z) ≡ x
first_of_three true true true x y z e f g = refl
first_of_three true true false x y z e f g = cc
first_of_three true false h x y z e f g = cc
first_of_three false l h x y z e f g = cc

second_by_low : {A : Type 0} (s l h : Bool) (x y z : A) → s ≡ true → l ≡ false → (if s then (if l && h then x else y) else z) ≡ y
second_by_low true true h x y z e f = cc
second_by_low true false h x y z e f = refl
second_by_low false l h x y z e f = cc

second_by_high : {A : Type 0} (s l h : Bool) (x y z : A) → s ≡ true → h ≡ false → (if s then (if l && h then x else y) else z) ≡ y
second_by_high true true true x y z e f = cc
second_by_high true true false x y z e f = refl
second_by_high true false h x y z e f = refl
second_by_high false l h x y z e f = cc

pub left_unsigned : (kind : IntKind) (a p : ℤ) → is_signed kind ≡ false → shifted_left kind a p ≡ Ok (wrapped kind p)
left_unsigned kind a p s = rw s refl

pub left_held : (kind : IntKind) (a p : ℤ) → is_signed kind ≡ true → int_le (pos 0) a ≡ true → holds kind p ≡ true → shifted_left kind a p ≡ Ok p
left_held kind a p s l h = first_of_three (is_signed kind) (int_le (pos 0) a) (holds kind p) _ _ _ s l h

pub left_negative : (kind : IntKind) (a p : ℤ) → is_signed kind ≡ true → int_le (pos 0) a ≡ false → shifted_left kind a p ≡ Err undefined.Shift
left_negative kind a p s l = second_by_low (is_signed kind) (int_le (pos 0) a) (holds kind p) _ _ _ s l

pub left_past : (kind : IntKind) (a p : ℤ) → is_signed kind ≡ true → holds kind p ≡ false → shifted_left kind a p ≡ Err undefined.Shift
left_past kind a p s h = second_by_high (is_signed kind) (int_le (pos 0) a) (holds kind p) _ _ _ s h

pub width_is : (kind : IntKind) → to_z w128 (width kind) ≡ pos (width kind)
width_is k.Bool = refl
width_is k.Char = refl
width_is k.SChar = refl
width_is k.UChar = refl
width_is k.Short = refl
width_is k.UShort = refl
width_is k.Int = refl
width_is k.UInt = refl
width_is k.Long = refl
width_is k.ULong = refl
width_is k.LongLong = refl
width_is k.ULongLong = refl

within : (w : ℕ) (n : ℤ) → int_lt n (pos 0) ≡ false → int_le (pos w) n ≡ false → (int_le (pos 0) n && int_lt n (pos w)) ≡ true
within w (pos n) l h = grind (arith, ints)
within w (negsuc n) l h = grind (arith, ints)

pub count_is : (kind : IntKind) (n : ℤ) → int_lt n (pos 0) ≡ false → int_le (pos (width kind)) n ≡ false → is_count kind n ≡ true
count_is kind n l h = within (width kind) n l h

first_of_two : {A : Type 0} (s l : Bool) (x y z : A) → s ≡ true → l ≡ true → (if s then (if l then x else y) else z) ≡ x
first_of_two true true x y z e f = refl
first_of_two true false x y z e f = cc
first_of_two false l x y z e f = cc

second_of_two : {A : Type 0} (s l : Bool) (x y z : A) → s ≡ true → l ≡ false → (if s then (if l then x else y) else z) ≡ y
second_of_two true true x y z e f = cc
second_of_two true false x y z e f = refl
second_of_two false l x y z e f = cc

pub shifted_by_left : (left : Bool) (kind : IntKind) (a count power : ℤ) → is_count kind count ≡ true → left ≡ true → power ≡ pos (2 ^ unsigned_abs count) → shifted left kind a count ≡ shifted_left kind a (a *ℤ power)
shifted_by_left left kind a count power counts is p = first_of_two (is_count kind count) left _ _ _ counts is ∙ ap (λ x. shifted_left kind a (a *ℤ x)) (sym p)

pub shifted_by_right : (left : Bool) (kind : IntKind) (a count power : ℤ) → is_count kind count ≡ true → left ≡ false → power ≡ pos (2 ^ unsigned_abs count) → shifted left kind a count ≡ Ok (int_div_euclid a power)
shifted_by_right left kind a count power counts is p = second_of_two (is_count kind count) left _ _ _ counts is ∙ ap (λ (x : ℤ). let r : Result ℤ Undefined = Ok (int_div_euclid a x) in r) (sym p)
