-- The blocks of locals: the running function's own stand from its base on, and all that were made are given.
use Rattle.std.proofs.Common.{◌≡◌, ℕ, zero, suc, ◌+◌, List, [], ◌∷◌, drop, Option, Some, None, refl, sym, ap, subst, ◌∙◌, arith}
use Rattle.std.specs.Prelude.{slice_get, IfSome}
use Rattle.c_core.specs.declared.values.Pointer.TheVariants.{Object}
use Rattle.c_meaning.specs.World.{block_in}
use Rattle.block_memory.specs.Given.{IsGiven}
use Rattle.machine_frames.specs.Held.{AreGivenLocals}

pub get_drop : (xs : List (Option ℕ)) (base x : ℕ) → slice_get (drop base xs) x ≡ slice_get xs (base + x)
get_drop xs zero x = let e : x ≡ 0 + x = omega arith in ap (slice_get xs) e
get_drop [] (suc base) x = refl
get_drop (y ∷ xs) (suc base) x = get_drop xs base x ∙ (let e : suc (base + x) ≡ suc base + x = omega arith in ap (slice_get (y ∷ xs)) e)

rest_given : (sizes : List ℕ) (x : Option ℕ) (xs : List (Option ℕ)) → AreGivenLocals sizes (x ∷ xs) → AreGivenLocals sizes xs
rest_given sizes None xs a = a
rest_given sizes (Some n) xs a = a.1

first_given : (sizes : List ℕ) (x : Option ℕ) (xs : List (Option ℕ)) (n : ℕ) → Some x ≡ Some (Some n) → AreGivenLocals sizes (x ∷ xs) → IsGiven sizes (Object n 0)
first_given sizes None xs n e a = absurd (let f : Some None ≡ Some (Some n) = e in cc)
first_given sizes (Some m) xs n e a = let f : m ≡ n = same m n e in subst (λ (k : ℕ). IsGiven sizes (Object k 0)) f a.0
  where
    same : (a b : ℕ) → Some (Some a) ≡ Some (Some b) → a ≡ b
    same a b e = cc

local_at : (sizes : List ℕ) (xs : List (Option ℕ)) (at n : ℕ) → slice_get xs at ≡ Some (Some n) → AreGivenLocals sizes xs → IsGiven sizes (Object n 0)
local_at sizes [] at n e a = absurd (let f : None ≡ Some (Some n) = e in cc)
local_at sizes (x ∷ xs) zero n e a = first_given sizes x xs n e a
local_at sizes (x ∷ xs) (suc at) n e a = local_at sizes xs at n e (rest_given sizes x xs a)

pub entry_given : (xs : List (Option ℕ)) (at : ℕ) (o : Option ℕ) → o ≡ block_in (slice_get xs at) → IfSome o (λ n. (sizes : List ℕ) → AreGivenLocals sizes xs → IsGiven sizes (Object n 0))
entry_given xs at None e = tt
entry_given xs at (Some n) e = λ sizes a. local_at sizes xs at n (there (slice_get xs at) e) a
  where
    there : (p : Option (Option ℕ)) → Some n ≡ block_in p → p ≡ Some (Some n)
    there None f = absurd (let g : Some n ≡ None = f in cc)
    there (Some q) f = ap Some (sym f)
