-- One element more on a stack, and what is below its topmost ones.
use Rattle.std.proofs.Common.{◌≡◌, ℕ, zero, suc, ◌+◌, ◌-◌, ◌≤◌, List, [], ◌∷◌, ◌++◌, Some, length, refl, ap, ◌∙◌, arith}
use Rattle.std.specs.Prelude.{slice_get}
use Rattle.c_core.specs.declared.values.Value.{Value}
use Rattle.machine_steps.specs.Frames.{below}
use Rattle.machine_frames.specs.Views.{topmost_first, values_of}

pub pushed : {A B : Type 0} (f : A → B) (done : List B) (xs : List A) (x : A) → topmost_first f done (xs ++ x ∷ []) ≡ f x ∷ topmost_first f done xs
pushed f done [] x = refl
pushed f done (y ∷ xs) x = pushed f (f y ∷ done) xs x

abbrev turned_round : List Value → List Value → List Value
turned_round done vs = topmost_first (λ v. v) done vs

pub below_more : (n : ℕ) (vs : List Value) → below (suc n) vs ≡ below 1 (below n vs)
below_more zero vs = refl
below_more (suc n) [] = refl
below_more (suc n) (v ∷ vs) = below_more n vs

below_nothing : (n : ℕ) → below n [] ≡ []
below_nothing zero = refl
below_nothing (suc n) = refl

below_all : (done vs : List Value) (k : ℕ) → below (length vs + k) (turned_round done vs) ≡ below k done
below_all done [] k = let e : 0 + k ≡ k = omega arith in rw e refl
below_all done (v ∷ vs) k =
    let e : suc (length vs) + k ≡ length vs + suc k = omega arith in
    rw e (below_all (v ∷ done) vs (suc k))

at_once : (done vs : List Value) (n : ℕ) → n ≡ length vs → below n (turned_round done vs) ≡ done
at_once done vs n h = let e : n ≡ length vs + 0 = omega (arith, h) in rw e (below_all done vs 0)

same_value : (a b : Value) → Some a ≡ Some b → a ≡ b
same_value a b h = cc

below_at : (done vs : List Value) (n i : ℕ) (v : Value) → n + suc i ≡ length vs → slice_get vs i ≡ Some v → below n (turned_round done vs) ≡ v ∷ below 1 (below n (turned_round done vs))
below_at done [] n i v e h = absurd (omega (arith, e))
below_at done (x ∷ vs) n zero v e h =
    let all = at_once (x ∷ done) vs n (omega (arith, e)) in
    rw all (ap (λ y. y ∷ done) (same_value x v h))
below_at done (x ∷ vs) n (suc i) v e h = below_at (x ∷ done) vs n i v (omega (arith, e)) h

-- the value below the topmost ones
pub value_below : (vs : List Value) (n i : ℕ) (v : Value) → n + suc i ≡ length vs → slice_get vs i ≡ Some v → below n (values_of vs) ≡ v ∷ below 1 (below n (values_of vs))
value_below vs n i v e h = below_at [] vs n i v e h

pub none_below : (vs : List Value) (n : ℕ) → length vs ≤ n → below n (values_of vs) ≡ []
none_below vs n h =
    let k : ℕ = n - length vs in
    let e : n ≡ length vs + k = omega (arith, h) in
    rw e (below_all [] vs k ∙ below_nothing k)
