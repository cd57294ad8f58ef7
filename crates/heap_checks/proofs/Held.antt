-- Taking a piece and giving one back keep what is noted true.
use Rattle.std.proofs.Common.{◌≡◌, ◌≢◌, ◌⊎◌, ⊎_elim, inl, inr, ℕ, ◌+◌, ◌*◌, ◌/◌, ◌%◌, ◌<◌, ◌≤◌, Bool, true, false, nat_eq, List, length, get_or, set, sym, ap, ◌∙◌, subst, arith, get_or-set_same, get_or-set_other, length-set}
use Rattle.std.proofs.lemmas.Bool.{cases_lt}
use Rattle.std.proofs.lemmas.Bool.Decides.{eqb_tells}
use Rattle.std.proofs.lemmas.List.{set-get_or, get_or_default}
use Rattle.hole_list.specs.Units.{IsLowestRun, Marked}
use Rattle.heap_checks.specs.Held.{Held}

clash : (b : Bool) {P : Type 0} → b ≡ false → b ≡ true → P
clash b e f = absurd (cc)

split_at : (k s n : ℕ) → ((s ≤ k) × (k < s + n)) ⊎ ((k < s) ⊎ (s + n ≤ k))
split_at k s n = ⊎_elim (λ (x : k < s). inr (inl x)) (λ (x : s ≤ k). ⊎_elim (λ (y : k < s + n). inl (x, y)) (λ (y : s + n ≤ k). inr (inr y)) (cases_lt k (s + n))) (cases_lt k s)

-- an entry of the row is the one that was written, or what it was
read : (p : List ℕ) (at n k : ℕ) → at < length p → ((k ≡ at) × (get_or (set p at n) k 0 ≡ n)) ⊎ ((k ≢ at) × (get_or (set p at n) k 0 ≡ get_or p k 0))
read p at n k lt = ⊎_elim
    (λ (x : (nat_eq k at ≡ true) × (k ≡ at)). inl (x.1, ap (λ (j : ℕ). get_or (set p at n) j 0) x.1 ∙ get_or-set_same p at n 0 lt))
    (λ (x : (nat_eq k at ≡ false) × (k ≢ at)). inr (x.1, get_or-set_other p at k n 0 x.1))
    (eqb_tells k at)

module _ (u u2 : List Bool) (p : List ℕ) (h : Held u p) (at n : ℕ) (inside : at < length p) (some : 0 < n) where
  -- what is not free stays so
  stays : Marked false u u2 at n → (j : ℕ) → get_or u j false ≡ false → get_or u2 j false ≡ false
  stays m j e = ⊎_elim (λ (i : (at ≤ j) × (j < at + n)). m.inside j i.0 i.1) (λ (o : (j < at) ⊎ (at + n ≤ j)). m.outside j o ∙ e) (split_at j at n)

  pub held_take : IsLowestRun u n at → Marked false u u2 at n → at + n ≤ length p → Held u2 (set p at n)
  held_take r m fits = record {
    same = omega (arith, m.same_length, h.same, length-set p at n);
    most = omega (arith, h.most, length-set p at n);
    within = λ k pos. ⊎_elim
        (λ (x : (k ≡ at) × (get_or (set p at n) k 0 ≡ n)). omega (arith, x.0, x.1, fits, length-set p at n))
        (λ (x : (k ≢ at) × (get_or (set p at n) k 0 ≡ get_or p k 0)). let w = h.within k (omega (arith, x.1, pos)) in omega (arith, x.1, w, length-set p at n))
        (read p at n k inside);
    held = λ k j le lt. ⊎_elim
        (λ (x : (k ≡ at) × (get_or (set p at n) k 0 ≡ n)). m.inside j (omega (arith, x.0, le)) (omega (arith, x.0, x.1, lt)))
        (λ (x : (k ≢ at) × (get_or (set p at n) k 0 ≡ get_or p k 0)). stays m j (h.held k j le (omega (arith, x.1, lt))))
        (read p at n k inside);
    apart = λ k l lt pk pl. ⊎_elim
        (λ (x : (k ≡ at) × (get_or (set p at n) k 0 ≡ n)). ⊎_elim
        (λ (y : (l ≡ at) × (get_or (set p at n) l 0 ≡ n)). absurd (omega (arith, x.0, y.0, lt)))
        (λ (y : (l ≢ at) × (get_or (set p at n) l 0 ≡ get_or p l 0)). ⊎_elim
        (λ (z : l < at + n). clash (get_or u l false) (h.held l l (omega arith) (omega (arith, y.1, pl))) (r.run l (omega (arith, x.0, lt)) z))
        (λ (z : at + n ≤ l). omega (arith, z, x.0, x.1))
        (cases_lt l (at + n)))
        (read p at n l inside))
        (λ (x : (k ≢ at) × (get_or (set p at n) k 0 ≡ get_or p k 0)). ⊎_elim
        (λ (y : (l ≡ at) × (get_or (set p at n) l 0 ≡ n)). ⊎_elim
        (λ (z : at < k + get_or p k 0). clash (get_or u at false) (h.held k at (omega (arith, lt, y.0)) z) (r.run at (omega arith) (omega (arith, some))))
        (λ (z : k + get_or p k 0 ≤ at). omega (arith, z, x.1, y.0))
        (cases_lt at (k + get_or p k 0)))
        (λ (y : (l ≢ at) × (get_or (set p at n) l 0 ≡ get_or p l 0)). let a = h.apart k l lt (omega (arith, x.1, pk)) (omega (arith, y.1, pl)) in omega (arith, a, x.1))
        (read p at n l inside))
        (read p at n k inside);
  }

  -- a unit of another piece is no unit of the one that begins at `at`
  other : get_or p at 0 ≡ n → (k j : ℕ) → k ≢ at → k ≤ j → j < k + get_or p k 0 → (at ≤ j) × (j < at + n) → ⊥
  other e k j ne le lt i = ⊎_elim {C = ⊥}
      (λ (x : k < at). let a = h.apart k at x (omega (arith, le, lt)) (omega (arith, e, some)) in omega (arith, a, lt, i.0))
      (λ (x : at ≤ k). ⊎_elim {C = ⊥}
      (λ (y : at < k). let a = h.apart at k y (omega (arith, e, some)) (omega (arith, le, lt)) in omega (arith, a, e, i.1, le))
      (λ (y : k ≤ at). ne (omega (arith, x, y)))
      (cases_lt at k))
      (cases_lt k at)

  pub held_give : get_or p at 0 ≡ n → Marked true u u2 at n → Held u2 (set p at 0)
  held_give e m = record {
    same = omega (arith, m.same_length, h.same, length-set p at 0);
    most = omega (arith, h.most, length-set p at 0);
    within = λ k pos. ⊎_elim
        (λ (x : (k ≡ at) × (get_or (set p at 0) k 0 ≡ 0)). absurd (omega (arith, x.1, pos)))
        (λ (x : (k ≢ at) × (get_or (set p at 0) k 0 ≡ get_or p k 0)). let w = h.within k (omega (arith, x.1, pos)) in omega (arith, x.1, w, length-set p at 0))
        (read p at 0 k inside);
    held = λ k j le lt. ⊎_elim
        (λ (x : (k ≡ at) × (get_or (set p at 0) k 0 ≡ 0)). absurd (omega (arith, x.1, le, lt)))
        (λ (x : (k ≢ at) × (get_or (set p at 0) k 0 ≡ get_or p k 0)). ⊎_elim
        (λ (i : (at ≤ j) × (j < at + n)). absurd (other e k j x.0 le (omega (arith, x.1, lt)) i))
        (λ (o : (j < at) ⊎ (at + n ≤ j)). m.outside j o ∙ h.held k j le (omega (arith, x.1, lt)))
        (split_at j at n))
        (read p at 0 k inside);
    apart = λ k l lt pk pl. ⊎_elim
        (λ (x : (k ≡ at) × (get_or (set p at 0) k 0 ≡ 0)). absurd (omega (arith, x.1, pk)))
        (λ (x : (k ≢ at) × (get_or (set p at 0) k 0 ≡ get_or p k 0)). ⊎_elim
        (λ (y : (l ≡ at) × (get_or (set p at 0) l 0 ≡ 0)). absurd (omega (arith, y.1, pl)))
        (λ (y : (l ≢ at) × (get_or (set p at 0) l 0 ≡ get_or p l 0)). let a = h.apart k l lt (omega (arith, x.1, pk)) (omega (arith, y.1, pl)) in omega (arith, a, x.1))
        (read p at 0 l inside))
        (read p at 0 k inside);
  }

-- and where no piece begins, nothing changes
pub held_none : (p : List ℕ) (at : ℕ) → get_or p at 0 ≡ 0 → set p at 0 ≡ p
held_none p at e = subst (λ (n : ℕ). set p at n ≡ p) e (set-get_or p at 0)

-- the same of bytes in place of units
pub take_noted : (u u2 : List Bool) (p : List ℕ) → Held u p → (place n : ℕ) → 0 < n → place % 16 ≡ 0 → place + 16 * n ≤ 16 * length u → IsLowestRun u (16 * n / 16) (place / 16) → Marked false u u2 (place / 16) (16 * n / 16) → Held u2 (set p (place / 16) n)
take_noted u u2 p h place n some mult fits r m =
    let e : 16 * n / 16 ≡ n = omega arith in
    held_take u u2 p h (place / 16) n (omega (arith, some, mult, fits, h.same)) some
    (subst (λ (q : ℕ). IsLowestRun u q (place / 16)) e r)
    (subst (λ (q : ℕ). Marked false u u2 (place / 16) q) e m)
    (omega (arith, mult, fits, h.same))

pub give_noted : (u u2 : List Bool) (p : List ℕ) → Held u p → (at n : ℕ) → get_or p at 0 ≡ n → 0 < n → at < length p → Marked true u u2 (16 * at / 16) (16 * n / 16) → Held u2 (set p at 0)
give_noted u u2 p h at n is some inside m =
    let e : 16 * n / 16 ≡ n = omega arith in
    let f : 16 * at / 16 ≡ at = omega arith in
    held_give u u2 p h at n inside some is
    (subst (λ (q : ℕ). Marked true u u2 at q) e (subst (λ (s : ℕ). Marked true u u2 s (16 * n / 16)) f m))

pub piece_taken : (u : List Bool) (p : List ℕ) → Held u p → (at n : ℕ) → get_or p at 0 ≡ n → (k : ℕ) → 16 * at / 16 ≤ k → k < 16 * at / 16 + 16 * n / 16 → get_or u k false ≡ false
piece_taken u p h at n is k ge lt = h.held at k (omega (arith, ge)) (omega (arith, lt, is))

pub piece_within : (u : List Bool) (p : List ℕ) → Held u p → (at n : ℕ) → get_or p at 0 ≡ n → 0 < n → 16 * at + 16 * n ≤ 16 * length u
piece_within u p h at n is some = let w = h.within at (omega (arith, is, some)) in omega (arith, w, is, h.same)

-- what was read of the row, whatever stands for a place behind its end
pub is_entry : (p : List ℕ) (at n : ℕ) → n ≡ get_or p at n → at < length p → get_or p at 0 ≡ n
is_entry p at n e lt = get_or_default p at 0 n lt ∙ sym e

pub held_same : (u : List Bool) (p : List ℕ) (at : ℕ) → Held u p → get_or p at 0 ≡ 0 → Held u (set p at 0)
held_same u p at h e = subst (λ (l : List ℕ). Held u l) (sym (held_none p at e)) h
