-- Lists that are one element longer, and blocks that have ended.
use Rattle.std.proofs.Common.{◌≡◌, ◌⊎◌, ⊎_elim, inl, inr, ℕ, zero, suc, ◌+◌, ◌<◌, ◌≤◌, Bool, true, false, List, [], ◌∷◌, ◌++◌, length, get_or, set, Option, Some, None, refl, sym, ap, subst, ◌∙◌, arith}
use Rattle.std.specs.Prelude.{slice_get, slice_index_or, if◌then◌else◌}
use Rattle.c_meaning.specs.World.{is_heap}
use Rattle.c_meaning.specs.declared.log.LogEntry.{LogEntry}
use Rattle.c_meaning.specs.declared.log.LogEntry.TheVariants.{Grant, Refuse, Release}
use Rattle.c_meaning.specs.Log.{WasGranted}
use Rattle.machine_frames.specs.Views.{grants_from}
use Rattle.machine_state.specs.Stands.{Stand, ended, ended_at, heaps_at, maker_at}

pub some_is : {A : Type 0} (x y : A) → Some x ≡ Some y → x ≡ y
some_is x y e = cc

pub none_is : {A : Type 0} {P : Type 0} (x : A) → None ≡ Some x → P
none_is x e = absurd (cc)

pub length_more : {A : Type 0} (xs : List A) (x : A) → length (xs ++ x ∷ []) ≡ suc (length xs)
length_more [] x = refl
length_more (y ∷ xs) x = ap suc (length_more xs x)

pub get_less : {A : Type 0} (xs : List A) (x y : A) (n : ℕ) → slice_get xs n ≡ Some y → slice_get (xs ++ x ∷ []) n ≡ Some y
get_less [] x y n e = none_is y e
get_less (z ∷ xs) x y zero e = e
get_less (z ∷ xs) x y (suc n) e = get_less xs x y n e

pub get_last : {A : Type 0} (xs : List A) (x : A) → slice_get (xs ++ x ∷ []) (length xs) ≡ Some x
get_last [] x = refl
get_last (y ∷ xs) x = get_last xs x

-- an element of the longer list is one of the shorter list, or the last one
pub get_more : {A : Type 0} (xs : List A) (x y : A) (n : ℕ) → slice_get (xs ++ x ∷ []) n ≡ Some y → ((slice_get xs n ≡ Some y) × (n < length xs)) ⊎ ((n ≡ length xs) × (x ≡ y))
get_more [] x y zero e = inr (refl, some_is x y e)
get_more [] x y (suc n) e = none_is y e
get_more (z ∷ xs) x y zero e = inl (e, omega arith)
get_more (z ∷ xs) x y (suc n) e =
    ⊎_elim
    (λ (h : (slice_get xs n ≡ Some y) × (n < length xs)). inl (h.0, omega (arith, h.1)))
    (λ (h : (n ≡ length xs) × (x ≡ y)). inr (ap suc h.0, h.1))
    (get_more xs x y n e)

pub get_within : {A : Type 0} (xs : List A) (n : ℕ) (x : A) → slice_get xs n ≡ Some x → n < length xs
get_within [] n x e = none_is x e
get_within (y ∷ xs) zero x e = omega arith
get_within (y ∷ xs) (suc n) x e = let h = get_within xs n x e in omega (arith, h)

pub at_less : (ns : List ℕ) (n k : ℕ) → k < length ns → slice_index_or (ns ++ n ∷ []) k 0 ≡ slice_index_or ns k 0
at_less [] n k h = absurd (omega (arith, h))
at_less (m ∷ ns) n zero h = refl
at_less (m ∷ ns) n (suc k) h = at_less ns n k (omega (arith, h))

pub at_last : (ns : List ℕ) (n k : ℕ) → k ≡ length ns → slice_index_or (ns ++ n ∷ []) k 0 ≡ n
at_last [] n k h = ap (λ i. slice_index_or (n ∷ []) i 0) h
at_last (m ∷ ns) n zero h = absurd (omega (arith, h))
at_last (m ∷ ns) n (suc k) h = at_last ns n k (omega (arith, h))

-- ---- the log

granted_some : (o : Option LogEntry) (t p : ℕ) → WasGranted o t p → (x : LogEntry) × (o ≡ Some x)
granted_some (Some x) t p h = (x, refl)
granted_some None t p h = absurd h

pub still_granted : (log : List LogEntry) (x : LogEntry) (j t p : ℕ) → WasGranted (slice_get log j) t p → WasGranted (slice_get (log ++ x ∷ []) j) t p
still_granted log x j t p h =
    let s = granted_some (slice_get log j) t p h in
    subst (λ (o : Option LogEntry). WasGranted o t p) (s.1 ∙ sym (get_less log x s.0 j s.1)) h

-- the numbers of the grants, behind one entry more
abbrev granting : LogEntry → ℕ → List ℕ
granting (Grant t s p) n = n ∷ []
granting (Refuse t s) n = []
granting (Release t p) n = []

grants_more : (n : ℕ) (log : List LogEntry) (x : LogEntry) → grants_from n (log ++ x ∷ []) ≡ grants_from n log ++ granting x (n + length log)
grants_more n [] (Grant t s p) = ap (λ (k : ℕ). k ∷ []) (omega arith)
grants_more n [] (Refuse t s) = refl
grants_more n [] (Release t p) = refl
grants_more n (Grant t s p ∷ log) x = ap (λ l. n ∷ l) (grants_more (suc n) log x ∙ ap (λ k. grants_from (suc n) log ++ granting x k) (omega arith))
grants_more n (Refuse t s ∷ log) x = grants_more (suc n) log x ∙ ap (λ k. grants_from (suc n) log ++ granting x k) (omega arith)
grants_more n (Release t p ∷ log) x = grants_more (suc n) log x ∙ ap (λ k. grants_from (suc n) log ++ granting x k) (omega arith)

pub grants_granted : (log : List LogEntry) (t s p : ℕ) → grants_from 0 (log ++ Grant t s p ∷ []) ≡ grants_from 0 log ++ length log ∷ []
grants_granted log t s p = grants_more 0 log (Grant t s p) ∙ ap (λ (k : ℕ). grants_from 0 log ++ k ∷ []) (omega arith)

append_none : {A : Type 0} (xs : List A) → xs ++ [] ≡ xs
append_none [] = refl
append_none (x ∷ xs) = ap (λ l. x ∷ l) (append_none xs)

pub grants_refused : (log : List LogEntry) (t s : ℕ) → grants_from 0 (log ++ Refuse t s ∷ []) ≡ grants_from 0 log
grants_refused log t s = grants_more 0 log (Refuse t s) ∙ append_none (grants_from 0 log)

pub grants_released : (log : List LogEntry) (t p : ℕ) → grants_from 0 (log ++ Release t p ∷ []) ≡ grants_from 0 log
grants_released log t p = grants_more 0 log (Release t p) ∙ append_none (grants_from 0 log)

-- ---- blocks that have ended

pub length_ended : (n : ℕ) (xs : List Stand) → length (ended_at n xs) ≡ length xs
length_ended n [] = refl
length_ended zero (x ∷ xs) = refl
length_ended (suc n) (x ∷ xs) = ap suc (length_ended n xs)

pub heaps_ended : (k n : ℕ) (xs : List Stand) → heaps_at k (ended_at n xs) ≡ heaps_at k xs
heaps_ended zero n xs = refl
heaps_ended (suc k) n [] = refl
heaps_ended (suc k) zero (x ∷ xs) = refl
heaps_ended (suc k) (suc n) (x ∷ xs) = ap (λ h. (if is_heap x.kind then 1 else 0) + h) (heaps_ended k n xs)

-- a block that lives was there, and isn't the one that has ended
pub ended_alive : (n : ℕ) (xs : List Stand) (m : ℕ) (x : Stand) → slice_get (ended_at n xs) m ≡ Some x → x.live ≡ true → (slice_get xs m ≡ Some x) × (m ≡ n → ⊥)
ended_alive n [] m x e l = none_is x e
ended_alive zero (y ∷ xs) zero x e l = absurd (let f : ended y ≡ x = some_is (ended y) x e in let g : false ≡ true = ap (λ (z : Stand). z.live) f ∙ l in cc)
ended_alive zero (y ∷ xs) (suc m) x e l = (e, λ h. absurd (omega (arith, h)))
ended_alive (suc n) (y ∷ xs) zero x e l = (e, λ h. absurd (omega (arith, h)))
ended_alive (suc n) (y ∷ xs) (suc m) x e l = let h = ended_alive n xs m x e l in (h.0, λ k. h.1 (omega (arith, k)))

-- a block has the size that it had
pub ended_size : (n : ℕ) (xs : List Stand) (m : ℕ) (x : Stand) → slice_get (ended_at n xs) m ≡ Some x → (y : Stand) × (slice_get xs m ≡ Some y) × (x.size ≡ y.size)
ended_size n [] m x e = none_is x e
ended_size zero (y ∷ xs) zero x e = (y, refl, ap (λ (z : Stand). z.size) (sym (some_is (ended y) x e)))
ended_size zero (y ∷ xs) (suc m) x e = (x, e, refl)
ended_size (suc n) (y ∷ xs) zero x e = (x, e, refl)
ended_size (suc n) (y ∷ xs) (suc m) x e = ended_size n xs m x e

-- ---- one block more

pub heaps_less : (k : ℕ) (xs : List Stand) (x : Stand) → k ≤ length xs → heaps_at k (xs ++ x ∷ []) ≡ heaps_at k xs
heaps_less zero xs x h = refl
heaps_less (suc k) [] x h = absurd (omega (arith, h))
heaps_less (suc k) (y ∷ xs) x h = ap (λ n. (if is_heap y.kind then 1 else 0) + n) (heaps_less k xs x (omega (arith, h)))

pub heaps_more : (xs : List Stand) (x : Stand) → heaps_at (length (xs ++ x ∷ [])) (xs ++ x ∷ []) ≡ heaps_at (length xs) xs + (if is_heap x.kind then 1 else 0)
heaps_more [] x = omega arith
heaps_more (y ∷ xs) x = let h = heaps_more xs x in omega (arith, h)

-- before an allocated block stand fewer than there are
pub heaps_below : (xs : List Stand) (n : ℕ) (x : Stand) → slice_get xs n ≡ Some x → is_heap x.kind ≡ true → heaps_at n xs < heaps_at (length xs) xs
heaps_below [] n x e h = none_is x e
heaps_below (y ∷ xs) zero x e h =
    let k : is_heap y.kind ≡ true = ap (λ (z : Stand). is_heap z.kind) (some_is y x e) ∙ h in
    let f : ◌≡◌ {A = ℕ} (if is_heap y.kind then 1 else 0) 1 = ap (λ (b : Bool). let c : ℕ = if b then 1 else 0 in c) k in
    omega (arith, f)
heaps_below (y ∷ xs) (suc n) x e h = let k = heaps_below xs n x e h in omega (arith, k)
