-- Which units are free, by the lengths of the holes.
use Rattle.std.proofs.Common.{zero, suc, ◌≡◌, ◌≢◌, ◌⊎◌, ⊎_elim, inl, inr, ℕ, ◌+◌, ◌-◌, ◌*◌, ◌/◌, ◌<◌, ◌≤◌, max, min, Bool, true, false, cond, nat_lt, List, [], ◌∷◌, length, get_or, set, replicate, refl, sym, ap, ◌∙◌, subst, arith}
use Rattle.std.proofs.lemmas.Bool.{cases_lt, cases_eq, ltb-true, ltb-false, lt-ltb}
use Rattle.std.proofs.lemmas.List.{get_or-set_same, get_or-set_other, get_or_past, length-set, get_or-replicate, length-replicate}
use Rattle.hole_list.specs.Units.{IsRun, runs_after, run_count}
use Rattle.hole_list.specs.Tags.{free_units, holes_of, Tags}

-- a hole has unit k
abbrev pub Covered : List ℕ → ℕ → Type 0
Covered lens k = (t : ℕ) × (t ≤ k) × (k < t + get_or lens t 0)

pub length_free : (left : ℕ) (ls : List ℕ) → length (free_units left ls) ≡ length ls
length_free left [] = refl
length_free left (l ∷ ls) = ap suc (length_free (max left l - 1) ls)

within_left : (left : ℕ) (ls : List ℕ) (k : ℕ) → k < length ls → k < left → get_or (free_units left ls) k false ≡ true
within_left left [] k lt h = absurd (omega (arith, lt))
within_left left (l ∷ ls) zero lt h = lt-ltb 0 (max left l) (omega (arith, h))
within_left left (l ∷ ls) (suc k) lt h = within_left (max left l - 1) ls k (omega (arith, lt)) (omega (arith, h))

pub cover : (left : ℕ) (ls : List ℕ) (k t : ℕ) → k < length ls → t ≤ k → k < t + get_or ls t 0 → get_or (free_units left ls) k false ≡ true
cover left [] k t lt le h = absurd (omega (arith, lt))
cover left (l ∷ ls) zero zero lt le h = lt-ltb 0 (max left l) (omega (arith, h))
cover left (l ∷ ls) zero (suc t) lt le h = absurd (omega (arith, le))
cover left (l ∷ ls) (suc k) zero lt le h = within_left (max left l - 1) ls k (omega (arith, lt)) (omega (arith, h))
cover left (l ∷ ls) (suc k) (suc t) lt le h = cover (max left l - 1) ls k t (omega (arith, lt)) (omega (arith, le)) (omega (arith, h))

cover_back : (left : ℕ) (ls : List ℕ) (k : ℕ) → get_or (free_units left ls) k false ≡ true → (k < left) ⊎ Covered ls k
cover_back left [] k e = absurd (cc)
cover_back left (l ∷ ls) zero e =
    let h : 0 < max left l = ltb-true 0 (max left l) e in
    ⊎_elim (λ (x : 0 < left). inl x) (λ (y : left ≤ 0). inr (0, omega arith, omega (arith, h, y))) (cases_lt 0 left)
cover_back left (l ∷ ls) (suc k) e = ⊎_elim
    (λ (x : k < max left l - 1). ⊎_elim (λ (a : suc k < left). inl a) (λ (b : left ≤ suc k). inr (0, omega arith, omega (arith, x, b))) (cases_lt (suc k) left))
    (λ (c : Covered ls k). inr (suc c.0, omega (arith, c.1), omega (arith, c.2)))
    (cover_back (max left l - 1) ls k e)

pub covered : (ls : List ℕ) (k : ℕ) → get_or (free_units 0 ls) k false ≡ true → Covered ls k
covered ls k e = ⊎_elim (λ (x : k < 0). absurd (omega (arith, x))) (λ (c : Covered ls k). c) (cover_back 0 ls k e)

pub bool_same : (a b : Bool) → (a ≡ true → b ≡ true) → (b ≡ true → a ≡ true) → a ≡ b
bool_same true b f g = sym (f refl)
bool_same false true f g = g refl
bool_same false false f g = refl

pub bool_not : (a : Bool) → (a ≡ true → ⊥) → a ≡ false
bool_not true f = absurd (f refl)
bool_not false f = refl

pub not_both : (a : Bool) → a ≡ true → a ≡ false → ⊥
not_both a e f = cc

-- what stands at t after `b` was set to 0 and then `a` to v
pub data Way (l m : List ℕ) (b a v t : ℕ) : Type 0 where
  is_set : t ≡ a → get_or m t 0 ≡ v → Way l m b a v t
  is_gone : t ≢ a → t ≡ b → get_or m t 0 ≡ 0 → Way l m b a v t
  is_kept : t ≢ a → t ≢ b → get_or m t 0 ≡ get_or l t 0 → Way l m b a v t

set_here : (l : List ℕ) (a v : ℕ) → (length l ≤ a → v ≡ 0) → get_or (set l a v) a 0 ≡ v
set_here l a v past = ⊎_elim
    (λ (lt : a < length l). get_or-set_same l a v 0 lt)
    (λ (le : length l ≤ a). get_or_past (set l a v) a 0 (let e = length-set l a v in omega (arith, e, le)) ∙ sym (past le))
    (cases_lt a (length l))

pub way_of : (l : List ℕ) (b a v t : ℕ) → (length l ≤ a → v ≡ 0) → Way l (set (set l b 0) a v) b a v t
way_of l b a v t past = ⊎_elim
    (λ (e : t ≡ a). is_set e (ap (λ (x : ℕ). get_or (set (set l b 0) a v) x 0) e ∙ set_here (set l b 0) a v (λ le. past (let s = length-set l b 0 in omega (arith, s, le)))))
    (λ (n : t ≢ a). ⊎_elim
    (λ (e : t ≡ b). is_gone n e (get_or-set_other (set l b 0) a t v 0 n ∙ ap (λ (x : ℕ). get_or (set l b 0) x 0) e ∙ set_here l b 0 (λ _. refl)))
    (λ (m : t ≢ b). is_kept n m (get_or-set_other (set l b 0) a t v 0 n ∙ get_or-set_other l b t 0 0 m))
    (cases_eq t b))
    (cases_eq t a)

pub length_sets : (l : List ℕ) (b a v : ℕ) → length (set (set l b 0) a v) ≡ length l
length_sets l b a v = length-set (set l b 0) a v ∙ length-set l b 0

-- how many holes there are

holes_set : (l : List ℕ) (i v : ℕ) → i < length l → holes_of (set l i v) + min (get_or l i 0) 1 ≡ holes_of l + min v 1
holes_set [] i v lt = absurd (omega (arith, lt))
holes_set (x ∷ xs) zero v lt = omega arith
holes_set (x ∷ xs) (suc i) v lt = let e = holes_set xs i v (omega (arith, lt)) in omega (arith, e)

set_past : (l : List ℕ) (i v : ℕ) → length l ≤ i → set l i v ≡ l
set_past [] i v le = refl
set_past (x ∷ xs) zero v le = absurd (omega (arith, le))
set_past (x ∷ xs) (suc i) v le = ap (λ (ys : List ℕ). x ∷ ys) (set_past xs i v (omega (arith, le)))

-- also behind the end, where nothing but 0 is set
pub holes_change : (l : List ℕ) (i v : ℕ) → (length l ≤ i → v ≡ 0) → holes_of (set l i v) + min (get_or l i 0) 1 ≡ holes_of l + min v 1
holes_change l i v past = ⊎_elim
    (λ (lt : i < length l). holes_set l i v lt)
    (λ (le : length l ≤ i).
    let e = ap holes_of (set_past l i v le) in
    let z = get_or_past l i 0 le in
    let n = past le in
    omega (arith, e, z, n))
    (cases_lt i (length l))

pub holes_most : (l : List ℕ) → holes_of l ≤ length l
holes_most [] = omega arith
holes_most (x ∷ xs) = let e = holes_most xs in omega (arith, e)

abbrev pub Apart : List ℕ → Type 0
Apart ls = (s t : ℕ) → s < t → 0 < get_or ls s 0 → 0 < get_or ls t 0 → s + get_or ls s 0 < t

apart_rest : (l : ℕ) (ls : List ℕ) → Apart (l ∷ ls) → Apart ls
apart_rest l ls a s t lt x y = let e : suc s + get_or ls s 0 < suc t = a (suc s) (suc t) (omega (arith, lt)) x y in omega (arith, e)

runs_step : (before : Bool) (left l : ℕ) (ls : List ℕ) → (before ≡ false → left ≡ 0) → (before ≡ true → (t : ℕ) → 0 < get_or (l ∷ ls) t 0 → left < t) → Apart (l ∷ ls)
    → ((c : Bool) (k : ℕ) → (c ≡ false → k ≡ 0) → (c ≡ true → (t : ℕ) → 0 < get_or ls t 0 → k < t) → runs_after c (free_units k ls) ≡ holes_of ls)
    → (c b : Bool) → before ≡ c → nat_lt 0 (max left l) ≡ b → cond b (cond c 0 1) 0 + runs_after b (free_units (max left l - 1) ls) ≡ min l 1 + holes_of ls
runs_step before left l ls f g a rest true true s e =
    let some : 0 < max left l = ltb-true 0 (max left l) e in
    let none : l ≡ 0 = ⊎_elim (λ (x : 0 < l). absurd (let h = g s 0 x in omega (arith, h))) (λ (x : l ≤ 0). omega (arith, x)) (cases_lt 0 l) in
    let more = rest true (max left l - 1) (λ x. absurd (not_both true refl x)) (λ _ t x. let h : left < suc t = g s (suc t) x in omega (arith, h, none, some)) in
    omega (arith, more, none)
runs_step before left l ls f g a rest false true s e =
    let some : 0 < max left l = ltb-true 0 (max left l) e in
    let none : left ≡ 0 = f s in
    let more = rest true (max left l - 1) (λ x. absurd (not_both true refl x)) (λ _ t x. let h : 0 + l < suc t = a 0 (suc t) (omega arith) (omega (arith, some, none)) x in omega (arith, h, none, some)) in
    omega (arith, more, none, some)
runs_step before left l ls f g a rest true false s e =
    let some : max left l ≤ 0 = ltb-false 0 (max left l) e in
    let more = rest false (max left l - 1) (λ _. omega (arith, some)) (λ x. absurd (not_both false x refl)) in
    omega (arith, more, some)
runs_step before left l ls f g a rest false false s e =
    let some : max left l ≤ 0 = ltb-false 0 (max left l) e in
    let more = rest false (max left l - 1) (λ _. omega (arith, some)) (λ x. absurd (not_both false x refl)) in
    omega (arith, more, some)

runs_free : (before : Bool) (left : ℕ) (ls : List ℕ) → (before ≡ false → left ≡ 0) → (before ≡ true → (t : ℕ) → 0 < get_or ls t 0 → left < t) → Apart ls → runs_after before (free_units left ls) ≡ holes_of ls
runs_free before left [] f g a = refl
runs_free before left (l ∷ ls) f g a = runs_step before left l ls f g a (λ c k x y. runs_free c k ls x y (apart_rest l ls a)) before (nat_lt 0 (max left l)) refl refl

pub runs_are : (lens ends : List ℕ) (count : ℕ) → Tags lens ends count → count ≡ run_count (free_units 0 lens)
runs_are lens ends count t = t.counted ∙ sym (runs_free false 0 lens (λ _. refl) (λ x. absurd (not_both false x refl)) t.apart)

-- runs that do not touch are at most half of the units and one
most_runs : (b : Bool) (units : List Bool) → 2 * runs_after b units ≤ length units + cond b 0 1
most_runs true [] = omega arith
most_runs false [] = omega arith
most_runs true (true ∷ us) = let e : 2 * runs_after true us ≤ length us + 0 = most_runs true us in omega (arith, e)
most_runs false (true ∷ us) = let e : 2 * runs_after true us ≤ length us + 0 = most_runs true us in omega (arith, e)
most_runs true (false ∷ us) = let e : 2 * runs_after false us ≤ length us + 1 = most_runs false us in omega (arith, e)
most_runs false (false ∷ us) = let e : 2 * runs_after false us ≤ length us + 1 = most_runs false us in omega (arith, e)

pub run_bound : (units : List Bool) → run_count units ≤ (length units + 1) / 2
run_bound units = let e : 2 * runs_after false units ≤ length units + 1 = most_runs false units in omega (arith, e)

-- one hole that has all units

all_free : (n : ℕ) → free_units n (replicate n 0) ≡ replicate n true
all_free zero = refl
all_free (suc n) =
    let e : max (suc n) 0 - 1 ≡ n = omega arith in
    ap (λ (b : Bool). b ∷ free_units (max (suc n) 0 - 1) (replicate n 0)) (lt-ltb 0 (max (suc n) 0) (omega arith)) ∙ ap (λ (m : ℕ). true ∷ free_units m (replicate n 0)) e ∙ ap (λ (us : List Bool). true ∷ us) (all_free n)

first_free : (n : ℕ) → free_units 0 (suc n ∷ replicate n 0) ≡ true ∷ replicate n true
first_free n =
    let e : max 0 (suc n) - 1 ≡ n = omega arith in
    ap (λ (b : Bool). b ∷ free_units (max 0 (suc n) - 1) (replicate n 0)) (lt-ltb 0 (max 0 (suc n)) (omega arith)) ∙ ap (λ (m : ℕ). true ∷ free_units m (replicate n 0)) e ∙ ap (λ (us : List Bool). true ∷ us) (all_free n)

pub whole_free : (n : ℕ) → 0 < n → free_units 0 (set (replicate n 0) 0 n) ≡ replicate n true
whole_free zero some = absurd (omega (arith, some))
whole_free (suc n) some = first_free n

abbrev zeros : ℕ → List ℕ
zeros n = replicate n 0

zero_at : (n t : ℕ) → get_or (zeros n) t 0 ≡ 0
zero_at n t = ⊎_elim
    (λ (lt : t < n). get_or-replicate n t 0 0 lt)
    (λ (le : n ≤ t). get_or_past (zeros n) t 0 (let e = length-replicate {A = ℕ} n 0 in omega (arith, e, le)))
    (cases_lt t n)

no_holes : (n : ℕ) → holes_of (zeros n) ≡ 0
no_holes zero = refl
no_holes (suc n) = let e = no_holes n in omega (arith, e)

one_at : (n a v t : ℕ) → a < n → ((t ≡ a) × (get_or (set (zeros n) a v) t 0 ≡ v)) ⊎ ((t ≢ a) × (get_or (set (zeros n) a v) t 0 ≡ 0))
one_at n a v t lt = ⊎_elim
    (λ (e : t ≡ a). inl (e, ap (λ (x : ℕ). get_or (set (zeros n) a v) x 0) e ∙ get_or-set_same (zeros n) a v 0 (let l = length-replicate {A = ℕ} n 0 in omega (arith, l, lt))))
    (λ (ne : t ≢ a). inr (ne, get_or-set_other (zeros n) a t v 0 ne ∙ zero_at n t))
    (cases_eq t a)

pub tags_whole : (n : ℕ) → 0 < n → n ≤ 65536 → Tags (set (replicate n 0) 0 n) (set (replicate (n + 1) 0) n n) 1
tags_whole n some small =
    let lens : List ℕ = set (zeros n) 0 n in
    let ends : List ℕ = set (zeros (n + 1)) n n in
    let long : length lens ≡ n = length-set (zeros n) 0 n ∙ length-replicate {A = ℕ} n 0 in
    let more : length ends ≡ n + 1 = length-set (zeros (n + 1)) n n ∙ length-replicate {A = ℕ} (n + 1) 0 in
    let first : (t : ℕ) → 0 < get_or lens t 0 → (t ≡ 0) × (get_or lens t 0 ≡ n) = λ t x. ⊎_elim
    (λ (w : (t ≡ 0) × (get_or lens t 0 ≡ n)). w)
    (λ (w : (t ≢ 0) × (get_or lens t 0 ≡ 0)). absurd (omega (arith, x, w.1)))
    (one_at n 0 n t some) in
    let last : (e : ℕ) → 0 < get_or ends e 0 → (e ≡ n) × (get_or ends e 0 ≡ n) = λ e x. ⊎_elim
    (λ (w : (e ≡ n) × (get_or ends e 0 ≡ n)). w)
    (λ (w : (e ≢ n) × (get_or ends e 0 ≡ 0)). absurd (omega (arith, x, w.1)))
    (one_at (n + 1) n n e (omega arith)) in
    let at_first : get_or lens 0 0 ≡ n = get_or-set_same (zeros n) 0 n 0 (let l = length-replicate {A = ℕ} n 0 in omega (arith, l, some)) in
    let at_last : get_or ends n 0 ≡ n = get_or-set_same (zeros (n + 1)) n n 0 (let l = length-replicate {A = ℕ} (n + 1) 0 in omega (arith, l)) in
    record {
      small = omega (arith, long, small);
      more = more ∙ ap (λ (m : ℕ). m + 1) (sym long);
      within = λ t x. let f = first t x in omega (arith, f.0, f.1, long);
      apart = λ s t lt x y. let f = first t y in absurd (omega (arith, f.0, lt));
      ending = λ t x. let f = first t x in
          let e : t + get_or lens t 0 ≡ n = omega (arith, f.0, f.1) in
          ap (λ (k : ℕ). get_or ends k 0) e ∙ at_last ∙ sym f.1;
      starting = λ e x. let l = last e x in
          let z : e - get_or ends e 0 ≡ 0 = omega (arith, l.0, l.1) in
          (omega (arith, l.0, l.1), ap (λ (k : ℕ). get_or lens k 0) z ∙ at_first ∙ sym l.1);
      counted =
          let h = holes_set (zeros n) 0 n (let l = length-replicate {A = ℕ} n 0 in omega (arith, l, some)) in
          let none = no_holes n in
          let z = zero_at n 0 in
          omega (arith, h, none, z, some);
    }
