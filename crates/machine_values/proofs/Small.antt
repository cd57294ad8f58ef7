-- Offsets into small blocks, and elements that are larger than every block.
use Rattle.std.proofs.Common.{◌≡◌, ℕ, zero, suc, ◌*◌, ◌<◌, ◌≤◌, ◌^◌, Bool, true, false, List, [], ◌∷◌, ℤ, pos, negsuc, neg_ℤ, nat_abs, Result, Ok, Err, length, refl, sym, subst, arith, eqb}
use Rattle.std.specs.Prelude.{slice_get, slice_index, int_le, ◌&&◌, IfOk}
use Rattle.std.proofs.Math.Dec.{eqb-suc-zero}
use Rattle.std.proofs.Math.Nat.{mod-zero}
use Rattle.std.proofs.lemmas.Int.{ints}
use Rattle.c_core.specs.declared.values.Pointer.{Pointer}
use Rattle.c_core.specs.declared.values.Pointer.TheVariants.{Null, Object, Function}
use Rattle.c_core.specs.Blocks.{Blocks}
use Rattle.num_ops.specs.declared.kinds.IntKind.{IntKind}
use Rattle.num_ops.specs.declared.arithmetic.Op.{Op}
use Rattle.num_ops.specs.declared.arithmetic.Undefined.{Undefined}
use Rattle.c_core.specs.declared.values.Value.{Value}
use Rattle.tok_base.specs.declared.reason.Reason.{Reason}
use Rattle.c_meaning.specs.Rules.{size_in, stepped, at_offset, number_value, number_in, elements, shift, arith as arith_of}
use Rattle.tok_base.specs.declared.reason.Reason.TheVariants as reason
use Rattle.block_memory.specs.Given.{IsGiven, IsGivenValue}
use Rattle.block_memory.specs.Shape.{sizes_of}
use Rattle.machine_values.specs.Small.{AreSmall, IsBelow}

size_at : (bs : Blocks) (n : ℕ) → n < length (sizes_of bs) → slice_index (sizes_of bs) n ≡ size_in (slice_get bs n)
size_at [] n h = absurd (omega arith)
size_at (b ∷ bs) zero h = refl
size_at (b ∷ bs) (suc n) h = size_at bs n (omega arith)

pub offset_small : (bs : Blocks) (sizes : List ℕ) (n i : ℕ) → sizes ≡ sizes_of bs → AreSmall bs → IsGiven sizes (Object n i) → i < 2 ^ 32
offset_small bs sizes n i e small given =
    let g = subst (λ (s : List ℕ). IsGiven s (Object n i)) e given in
    let s = small n in
    let a = size_at bs n g.0 in
    let b = g.1 in
    omega (arith, s, a, b)

-- an offset moved by at least one element that is larger than every block
far_test : (offset limit size : ℕ) (index : ℤ) (minus : Bool) → offset < 2 ^ 32 → limit < 2 ^ 32 → 2 ^ 32 ≤ size → (index ≡ pos 0 → ⊥)
    → (int_le (pos 0) (stepped offset index size minus) && int_le (stepped offset index size minus) (pos limit)) ≡ false
far_test offset limit size (pos zero) minus a b h nz = absurd (nz refl)
far_test offset limit size (pos (suc k)) true a b h nz = let p : size ≤ suc k * size = omega arith in grind (arith, ints)
far_test offset limit size (pos (suc k)) false a b h nz = let p : size ≤ suc k * size = omega arith in grind (arith, ints)
far_test offset limit size (negsuc k) true a b h nz = let p : size ≤ suc k * size = omega arith in grind (arith, ints)
far_test offset limit size (negsuc k) false a b h nz = let p : size ≤ suc k * size = omega arith in grind (arith, ints)

pub at_far : (bs : Blocks) (n offset size : ℕ) (index : ℤ) (minus : Bool) → AreSmall bs → offset < 2 ^ 32 → 2 ^ 32 ≤ size → (index ≡ pos 0 → ⊥)
    → at_offset bs n (stepped offset index size minus) ≡ Err reason.PointerRange
at_far bs n offset size index minus small a h nz = rw (far_test offset (size_in (slice_get bs n)) size index minus a (small n) h nz)

pub pointer_below : (bs : Blocks) (sizes : List ℕ) (p : Pointer) → sizes ≡ sizes_of bs → AreSmall bs → IsGiven sizes p → IsBelow p
pointer_below bs sizes Null e small given = tt
pointer_below bs sizes (Function f) e small given = tt
pointer_below bs sizes (Object n i) e small given = offset_small bs sizes n i e small given

pub given_at : (bs : Blocks) (sizes : List ℕ) (n i : ℕ) → sizes ≡ sizes_of bs → n < length sizes → i ≤ size_in (slice_get bs n) → IsGiven sizes (Object n i)
given_at bs sizes n i e h le = subst (λ (s : List ℕ). IsGiven s (Object n i)) (sym e) (go (subst (λ (s : List ℕ). n < length s) e h))
  where
    go : n < length (sizes_of bs) → IsGiven (sizes_of bs) (Object n i)
    go h = let a = size_at bs n h in (h, omega (arith, a, le))

number_given : (sizes : List ℕ) (kind : IntKind) (r : Result ℤ Undefined) → IfOk (number_value kind r) (λ v. IsGivenValue sizes v)
number_given sizes kind (Ok z) = tt
number_given sizes kind (Err e) = tt

-- the value of an operation on integers is none of a pointer
pub arith_given : (sizes : List ℕ) (op : Op) (a b : Value) (r : Result Value Reason) → r ≡ arith_of op a b → IfOk r (λ v. IsGivenValue sizes v)
arith_given sizes op a b r e = subst (λ (x : Result Value Reason). IfOk x (λ v. IsGivenValue sizes v)) (sym e) (number_given sizes (number_in a).kind _)

pub shift_given : (sizes : List ℕ) (left : Bool) (a b : Value) (r : Result Value Reason) → r ≡ shift left a b → IfOk r (λ v. IsGivenValue sizes v)
shift_given sizes left a b r e = subst (λ (x : Result Value Reason). IfOk x (λ v. IsGivenValue sizes v)) (sym e) (number_given sizes (number_in a).kind _)

not_zero : (n : ℕ) → eqb (suc n) 0 ≡ false
not_zero n = eqb-suc-zero n

-- a difference in elements of no size: only equal places have one
pub none_left : (bytes : ℤ) → (bytes ≡ pos 0 → ⊥) → elements bytes 0 ≡ Err reason.PointerDiff
none_left (pos zero) h = absurd (h refl)
none_left (pos (suc n)) h = rw (mod-zero (suc n), not_zero n) refl
none_left (negsuc n) h =
    let e : eqb (nat_abs (neg_ℤ (pos (suc n)))) 0 ≡ false = not_zero n in
    rw (mod-zero (suc n), e) refl
