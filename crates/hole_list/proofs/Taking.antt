-- Some units are taken from the lowest hole that has so many.
use Rattle.std.proofs.Common.{◌≡◌, ◌≢◌, ◌⊎◌, ⊎_elim, inl, inr, ℕ, ◌+◌, ◌-◌, ◌<◌, ◌≤◌, min, Bool, true, false, List, length, get_or, set, refl, sym, ap, ◌∙◌, subst, arith}
use Rattle.std.proofs.lemmas.Bool.{cases_lt, cases_eq}
use Rattle.std.proofs.lemmas.List.{get_or-set_same, get_or-set_other, length-set}
use Rattle.hole_list.specs.Units.{IsRun, IsLowestRun, Marked}
use Rattle.hole_list.specs.Tags.{free_units, holes_of, Tags}
use Rattle.hole_list.proofs.Free.{Covered, length_free, cover, covered, bool_same, bool_not, Way, is_set, is_gone, is_kept, way_of, length_sets, holes_change, holes_most}

-- what stands at e after `a` was set to v
abbrev pub Step : List ℕ → List ℕ → ℕ → ℕ → ℕ → Type 0
Step l m a v e = ((e ≡ a) × (get_or m e 0 ≡ v)) ⊎ ((e ≢ a) × (get_or m e 0 ≡ get_or l e 0))

pub step_of : (l : List ℕ) (a v e : ℕ) → a < length l → Step l (set l a v) a v e
step_of l a v e lt = ⊎_elim
    (λ (x : e ≡ a). inl (x, ap (λ (y : ℕ). get_or (set l a v) y 0) x ∙ get_or-set_same l a v 0 lt))
    (λ (n : e ≢ a). inr (n, get_or-set_other l a e v 0 n))
    (cases_eq e a)

-- no run of n units begins where no hole up to there has so many
pub no_run : (lens ends : List ℕ) (count : ℕ) → Tags lens ends count → (n below : ℕ) → 0 < n → ((k : ℕ) → k ≤ below → get_or lens k 0 < n) → IsRun (free_units 0 lens) below n → ⊥
no_run lens ends count tags n below some short run =
    let c = covered lens below (run below (omega arith) (omega (arith, some))) in
    let less = short c.0 c.1 in
    let d = covered lens (c.0 + get_or lens c.0 0) (run (c.0 + get_or lens c.0 0) (omega (arith, c.2)) (omega (arith, c.1, less))) in
    ⊎_elim
    (λ (x : d.0 < c.0). let a = tags.apart d.0 c.0 x (omega (arith, d.1, d.2)) (omega (arith, c.1, c.2)) in omega (arith, a, d.2))
    (λ (x : c.0 ≤ d.0). ⊎_elim
    (λ (y : c.0 < d.0). let a = tags.apart c.0 d.0 y (omega (arith, c.1, c.2)) (omega (arith, d.1, d.2)) in omega (arith, a, d.1))
    (λ (y : d.0 ≤ c.0).
    let same : d.0 ≡ c.0 = omega (arith, x, y) in
    let f : get_or lens d.0 0 ≡ get_or lens c.0 0 = ap (λ (t : ℕ). get_or lens t 0) same in
    omega (arith, d.2, same, f))
    (cases_lt c.0 d.0))
    (cases_lt d.0 c.0)

module _ (lens ends : List ℕ) (count : ℕ) (tags : Tags lens ends count) (at n rest : ℕ) (some : 0 < n) (whole : get_or lens at 0 ≡ n + rest) where
  pub end_is : at + n + rest ≤ length lens
  end_is = let w = tags.within at (omega (arith, whole, some)) in omega (arith, w, whole)

  -- no other hole touches this one
  below_it : (t : ℕ) → t < at → 0 < get_or lens t 0 → t + get_or lens t 0 < at
  below_it t lt x = tags.apart t at lt x (omega (arith, whole, some))

  above_it : (t : ℕ) → at < t → 0 < get_or lens t 0 → at + n + rest < t
  above_it t lt x = let a = tags.apart at t lt (omega (arith, whole, some)) x in omega (arith, a, whole)

  pub taken_run : IsRun (free_units 0 lens) at n
  taken_run k ge lt = cover 0 lens k at (let e = end_is in omega (arith, lt, e)) ge (omega (arith, lt, whole))

  no_run_below : ((k : ℕ) → k < at → get_or lens k 0 < n) → (below : ℕ) → below < at → IsRun (free_units 0 lens) below n → ⊥
  no_run_below short below lt run = no_run lens ends count tags n below some (λ k le. short k (omega (arith, le, lt))) run

  pub taken_lowest : ((k : ℕ) → k < at → get_or lens k 0 < n) → IsLowestRun (free_units 0 lens) n at
  taken_lowest short = record { run = taken_run; lowest = no_run_below short }

  module _ (lens' ends' : List ℕ) (long : length lens' ≡ length lens) (more : length ends' ≡ length ends) (w : (t : ℕ) → Way lens lens' at (at + n) rest t) (v : (e : ℕ) → Step ends ends' (at + n + rest) rest e) where
    rest_here : get_or lens' (at + n) 0 ≡ rest
    rest_here = go (w (at + n))
      where
        go : Way lens lens' at (at + n) rest (at + n) → get_or lens' (at + n) 0 ≡ rest
        go (is_set p e) = e
        go (is_gone p q e) = absurd (p refl)
        go (is_kept p q e) = absurd (p refl)

    within_by : (t : ℕ) → Way lens lens' at (at + n) rest t → 0 < get_or lens' t 0 → t + get_or lens' t 0 ≤ length lens'
    within_by t (is_set p e) x = let d = end_is in omega (arith, p, e, d, long)
    within_by t (is_gone p q e) x = absurd (omega (arith, e, x))
    within_by t (is_kept p q e) x = let d = tags.within t (omega (arith, e, x)) in omega (arith, d, e, long)

    apart_by : (s t : ℕ) → Way lens lens' at (at + n) rest s → Way lens lens' at (at + n) rest t → s < t → 0 < get_or lens' s 0 → 0 < get_or lens' t 0 → s + get_or lens' s 0 < t
    apart_by s t (is_gone p q e) y lt a b = absurd (omega (arith, e, a))
    apart_by s t (is_set p e) (is_gone q r f) lt a b = absurd (omega (arith, f, b))
    apart_by s t (is_set p e) (is_set q f) lt a b = absurd (omega (arith, p, q, lt))
    apart_by s t (is_set p e) (is_kept q r f) lt a b = let h = above_it t (omega (arith, p, lt)) (omega (arith, f, b)) in omega (arith, h, p, e)
    apart_by s t (is_kept p q e) (is_gone r x f) lt a b = absurd (omega (arith, f, b))
    apart_by s t (is_kept p q e) (is_set r f) lt a b = ⊎_elim
        (λ (x : s < at). let h = below_it s x (omega (arith, e, a)) in omega (arith, h, e, r))
        (λ (x : at ≤ s). let h = above_it s (omega (arith, x, q)) (omega (arith, e, a)) in absurd (omega (arith, h, lt, r)))
        (cases_lt s at)
    apart_by s t (is_kept p q e) (is_kept r x f) lt a b = let h = tags.apart s t lt (omega (arith, e, a)) (omega (arith, f, b)) in omega (arith, h, e)

    ending_by : (t : ℕ) → Way lens lens' at (at + n) rest t → Step ends ends' (at + n + rest) rest (t + get_or lens' t 0) → 0 < get_or lens' t 0 → get_or ends' (t + get_or lens' t 0) 0 ≡ get_or lens' t 0
    ending_by t (is_gone p q e) y a = absurd (omega (arith, e, a))
    ending_by t (is_set p e) (inl y) a = y.1 ∙ sym e
    ending_by t (is_set p e) (inr y) a = absurd (y.0 (omega (arith, p, e)))
    ending_by t (is_kept p q e) (inl y) a = absurd (⊎_elim {C = ⊥}
        (λ (x : t < at). let h = below_it t x (omega (arith, e, a)) in omega (arith, h, e, y.0))
        (λ (x : at ≤ t). let h = above_it t (omega (arith, x, q)) (omega (arith, e, a)) in omega (arith, h, y.0))
        (cases_lt t at))
    ending_by t (is_kept p q e) (inr y) a =
        y.1 ∙ subst (λ (m : ℕ). get_or ends (t + m) 0 ≡ m) (sym e) (tags.ending t (omega (arith, e, a)))

    starting_by : (e : ℕ) → Step ends ends' (at + n + rest) rest e → 0 < get_or ends' e 0 → (get_or ends' e 0 ≤ e) × (get_or lens' (e - get_or ends' e 0) 0 ≡ get_or ends' e 0)
    starting_by e (inl y) a =
        let z : e - get_or ends' e 0 ≡ at + n = omega (arith, y.0, y.1) in
        (omega (arith, y.0, y.1), ap (λ (k : ℕ). get_or lens' k 0) z ∙ rest_here ∙ sym y.1)
    starting_by e (inr y) a =
        let s = tags.starting e (omega (arith, y.1, a)) in
        subst (λ (m : ℕ). (m ≤ e) × (get_or lens' (e - m) 0 ≡ m)) (sym y.1) (s.0, go (w (e - get_or ends e 0)) s)
      where
        go : Way lens lens' at (at + n) rest (e - get_or ends e 0) → (get_or ends e 0 ≤ e) × (get_or lens (e - get_or ends e 0) 0 ≡ get_or ends e 0) → get_or lens' (e - get_or ends e 0) 0 ≡ get_or ends e 0
        go (is_set p f) s = absurd (let h = above_it (e - get_or ends e 0) (omega (arith, p, some)) (omega (arith, s.1, y.1, a)) in omega (arith, h, p))
        go (is_gone p q f) s =
            let here : get_or lens at 0 ≡ get_or ends e 0 = ap (λ (k : ℕ). get_or lens k 0) (sym q) ∙ s.1 in
            absurd (y.0 (omega (arith, q, here, whole, s.0, some)))
        go (is_kept p q f) s = f ∙ s.1

    pub tags_taken : holes_of lens' + 1 ≡ count + min rest 1 → Tags lens' ends' (count + min rest 1 - 1)
    tags_taken holes = record {
      small = let d = tags.small in omega (arith, d, long);
      more = let d = tags.more in omega (arith, d, long, more);
      within = λ t x. within_by t (w t) x;
      apart = λ s t lt x y. apart_by s t (w s) (w t) lt x y;
      ending = λ t x. ending_by t (w t) (v (t + get_or lens' t 0)) x;
      starting = λ e x. starting_by e (v e) x;
      counted = omega (arith, holes);
    }

    inside_by : (k : ℕ) → at ≤ k → k < at + n → (t : ℕ) → t ≤ k → k < t + get_or lens' t 0 → Way lens lens' at (at + n) rest t → ⊥
    inside_by k ge lt t le more (is_set p e) = omega (arith, p, le, lt)
    inside_by k ge lt t le more (is_gone p q e) = omega (arith, e, le, more)
    inside_by k ge lt t le more (is_kept p q e) = ⊎_elim {C = ⊥}
        (λ (x : t < at). let h = below_it t x (omega (arith, e, le, more)) in omega (arith, h, e, more, ge))
        (λ (x : at ≤ t). let h = above_it t (omega (arith, x, q)) (omega (arith, e, le, more)) in omega (arith, h, le, lt))
        (cases_lt t at)

    out_by : (k : ℕ) → (t : ℕ) → t ≤ k → k < t + get_or lens' t 0 → Way lens lens' at (at + n) rest t → get_or (free_units 0 lens) k false ≡ true
    out_by k t le more (is_set p e) = cover 0 lens k at (let d = end_is in omega (arith, d, more, p, e)) (omega (arith, p, le)) (omega (arith, p, e, more, whole))
    out_by k t le more (is_gone p q e) = absurd (omega (arith, e, le, more))
    out_by k t le more (is_kept p q e) = cover 0 lens k t (let d = tags.within t (omega (arith, e, le, more)) in omega (arith, d, e, more)) le (omega (arith, e, more))

    back_by : (k : ℕ) → (k < at) ⊎ (at + n ≤ k) → (t : ℕ) → t ≤ k → k < t + get_or lens t 0 → Way lens lens' at (at + n) rest t → get_or (free_units 0 lens') k false ≡ true
    back_by k o t le more (is_set p e) = absurd (let h = above_it t (omega (arith, p, some)) (omega (arith, le, more)) in omega (arith, h, p))
    back_by k o t le more (is_gone p q e) =
        let here : get_or lens t 0 ≡ n + rest = ap (λ (x : ℕ). get_or lens x 0) q ∙ whole in
        ⊎_elim
        (λ (x : k < at). absurd (omega (arith, x, q, le)))
        (λ (x : at + n ≤ k). cover 0 lens' k (at + n) (let d = end_is in omega (arith, d, more, q, here, long)) x (let r = rest_here in omega (arith, r, more, q, here)))
        o
    back_by k o t le more (is_kept p q e) = cover 0 lens' k t (let d = tags.within t (omega (arith, le, more)) in omega (arith, d, more, long)) le (omega (arith, e, more))

    pub marked_taken : Marked false (free_units 0 lens) (free_units 0 lens') at n
    marked_taken = record {
      same_length = length_free 0 lens' ∙ long ∙ sym (length_free 0 lens);
      inside = λ k ge lt. bool_not (get_or (free_units 0 lens') k false) (λ yes. let c = covered lens' k yes in inside_by k ge lt c.0 c.1 c.2 (w c.0));
      outside = λ k o. bool_same (get_or (free_units 0 lens') k false) (get_or (free_units 0 lens) k false)
          (λ yes. let c = covered lens' k yes in out_by k c.0 c.1 c.2 (w c.0))
          (λ yes. let c = covered lens k yes in back_by k o c.0 c.1 c.2 (w c.0));
    }

-- all that the code's change comes to
pub record Took (lens ends : List ℕ) (count at n rest : ℕ) : Type 0 where
  pub tags : Tags (set (set lens at 0) (at + n) rest) (set ends (at + n + rest) rest) (count + min rest 1 - 1)
  pub lowest : IsLowestRun (free_units 0 lens) n at
  pub marked : Marked false (free_units 0 lens) (free_units 0 (set (set lens at 0) (at + n) rest)) at n
  pub inside : at + n + rest ≤ length lens
  pub counted : 1 ≤ count + min rest 1
  pub fits : count + min rest 1 ≤ 65537

pub took : (lens ends : List ℕ) (count : ℕ) → Tags lens ends count → (at n rest : ℕ) → 0 < n → get_or lens at 0 ≡ n + rest → ((k : ℕ) → k < at → get_or lens k 0 < n) → Took lens ends count at n rest
took lens ends count tags at n rest some whole short =
    let lens' : List ℕ = set (set lens at 0) (at + n) rest in
    let ends' : List ℕ = set ends (at + n + rest) rest in
    let inside = end_is lens ends count tags at n rest some whole in
    let none : get_or lens (at + n) 0 ≡ 0 = ⊎_elim
    (λ (x : 0 < get_or lens (at + n) 0). absurd (let a = tags.apart at (at + n) (omega (arith, some)) (omega (arith, whole, some)) x in omega (arith, a, whole)))
    (λ (x : get_or lens (at + n) 0 ≤ 0). omega (arith, x))
    (cases_lt 0 (get_or lens (at + n) 0)) in
    let same : get_or (set lens at 0) (at + n) 0 ≡ get_or lens (at + n) 0 = get_or-set_other lens at (at + n) 0 0 (omega (arith, some)) in
    let first = holes_change lens at 0 (λ _. refl) in
    let cut : length (set lens at 0) ≡ length lens = length-set lens at 0 in
    let second = holes_change (set lens at 0) (at + n) rest (λ le. omega (arith, le, cut, inside)) in
    let counted = tags.counted in
    let holes : holes_of lens' + 1 ≡ count + min rest 1 = omega (arith, first, second, same, none, whole, some, counted) in
    let long = length_sets lens at (at + n) rest in
    let more = length-set ends (at + n + rest) rest in
    let w : (t : ℕ) → Way lens lens' at (at + n) rest t = λ t. way_of lens at (at + n) rest t (λ le. omega (arith, le, inside)) in
    let v : (e : ℕ) → Step ends ends' (at + n + rest) rest e = λ e. step_of ends (at + n + rest) rest e (let m = tags.more in omega (arith, m, inside)) in
    let most = holes_most lens in
    let small = tags.small in
    record {
      tags = tags_taken lens ends count tags at n rest some whole lens' ends' long more w v holes;
      lowest = taken_lowest lens ends count tags at n rest some whole short;
      marked = marked_taken lens ends count tags at n rest some whole lens' ends' long more w v;
      inside = inside;
      counted = omega (arith, holes);
      fits = omega (arith, counted, most, small);
    }

-- the marks, as the contract names their places
pub marks_at : {state : Bool} (old new units : List Bool) (at n to m : ℕ) → old ≡ units → at ≡ to → n ≡ m → Marked state old new at n → Marked state units new to m
marks_at {state} old new units at n to m e p q h =
    subst (λ (us : List Bool). Marked state us new to m) e (subst (λ (k : ℕ). Marked state old new k m) p (subst (λ (k : ℕ). Marked state old new at k) q h))
