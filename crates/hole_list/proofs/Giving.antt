-- Some units that are in no hole are given back, and join the holes that end and begin beside them.
use Rattle.std.proofs.Common.{◌≡◌, ◌≢◌, ◌⊎◌, ⊎_elim, inl, inr, ℕ, ◌+◌, ◌-◌, ◌*◌, ◌/◌, ◌%◌, ◌<◌, ◌≤◌, min, Bool, true, false, List, length, get_or, set, refl, sym, ap, ◌∙◌, subst, arith}
use Rattle.std.proofs.lemmas.Bool.{cases_lt, cases_eq}
use Rattle.hole_list.specs.Units.{IsRun, Marked}
use Rattle.hole_list.specs.Tags.{free_units, holes_of, Tags}
use Rattle.std.proofs.lemmas.List.{get_or-set_other, get_or_default, length-set}
use Rattle.hole_list.proofs.Free.{Covered, length_free, cover, covered, bool_same, not_both, Way, is_set, is_gone, is_kept, way_of, length_sets, holes_change, holes_most}

module _ (lens ends : List ℕ) (count : ℕ) (tags : Tags lens ends count) (s n below above p : ℕ) (some : 0 < n) (is_below : get_or ends s 0 ≡ below) (is_above : get_or lens (s + n) 0 ≡ above) (inside : s + n ≤ length lens)
    (taken : (k : ℕ) → s ≤ k → k < s + n → get_or (free_units 0 lens) k false ≡ false) (at_p : p ≡ s - below) where
  -- no hole has one of these units
  clear : (k t : ℕ) → s ≤ k → k < s + n → t ≤ k → k < t + get_or lens t 0 → ⊥
  clear k t ge lt le more = not_both (get_or (free_units 0 lens) k false) (cover 0 lens k t (omega (arith, lt, inside)) le more) (taken k ge lt)

  pub low : (below ≤ s) × (get_or lens p 0 ≡ below)
  low = ⊎_elim
      (λ (x : 0 < below).
      let e = tags.starting s (omega (arith, is_below, x)) in
      let q : s - get_or ends s 0 ≡ p = omega (arith, is_below, at_p) in
      (omega (arith, e.0, is_below), ap (λ (k : ℕ). get_or lens k 0) (sym q) ∙ e.1 ∙ is_below))
      (λ (x : below ≤ 0).
      let q : p ≡ s = omega (arith, x, at_p) in
      let none : get_or lens s 0 ≡ 0 = ⊎_elim
      (λ (y : 0 < get_or lens s 0). absurd (clear s s (omega arith) (omega (arith, some)) (omega arith) (omega (arith, y))))
      (λ (y : get_or lens s 0 ≤ 0). omega (arith, y))
      (cases_lt 0 (get_or lens s 0)) in
      (omega (arith, x), ap (λ (k : ℕ). get_or lens k 0) q ∙ none ∙ omega (arith, x)))
      (cases_lt 0 below)

  pub top : s + n + above ≤ length lens
  top = ⊎_elim
      (λ (x : 0 < above). let e = tags.within (s + n) (omega (arith, is_above, x)) in omega (arith, e, is_above))
      (λ (x : above ≤ 0). omega (arith, x, inside))
      (cases_lt 0 above)

  p_is : p + below ≡ s
  p_is = let l = low.0 in omega (arith, l, at_p)

  -- a hole that begins below p ends below it, and one that begins behind these units and the hole above them leaves a unit
  below_it : (u : ℕ) → u < p → 0 < get_or lens u 0 → u + get_or lens u 0 < p
  below_it u lt x = ⊎_elim
      (λ (y : 0 < below). let l = low.1 in tags.apart u p lt x (omega (arith, l, y)))
      (λ (y : below ≤ 0).
      let q = p_is in
      ⊎_elim
      (λ (z : s < u + get_or lens u 0). absurd (clear s u (omega arith) (omega (arith, some)) (omega (arith, lt, q)) z))
      (λ (z : u + get_or lens u 0 ≤ s). ⊎_elim
      (λ (v : u + get_or lens u 0 < s). omega (arith, v, q, y))
      (λ (v : s ≤ u + get_or lens u 0).
      let e = tags.ending u x in
      let same : u + get_or lens u 0 ≡ s = omega (arith, z, v) in
      let f : get_or ends s 0 ≡ get_or lens u 0 = ap (λ (k : ℕ). get_or ends k 0) (sym same) ∙ e in
      absurd (omega (arith, f, is_below, y, x)))
      (cases_lt (u + get_or lens u 0) s))
      (cases_lt s (u + get_or lens u 0)))
      (cases_lt 0 below)

  above_it : (t : ℕ) → p < t → t ≢ s + n → 0 < get_or lens t 0 → s + n + above < t
  above_it t lt ne x = ⊎_elim
      (λ (y : t < s).
      let q = p_is in
      let l = low.1 in
      let a = tags.apart p t lt (omega (arith, l, q, lt, y)) x in
      absurd (omega (arith, a, l, q, y)))
      (λ (y : s ≤ t). ⊎_elim
      (λ (z : t < s + n). absurd (clear t t y z (omega arith) (omega (arith, x))))
      (λ (z : s + n ≤ t). ⊎_elim
      (λ (v : 0 < above). let a = tags.apart (s + n) t (omega (arith, z, ne)) (omega (arith, is_above, v)) x in omega (arith, a, is_above))
      (λ (v : above ≤ 0). omega (arith, v, z, ne))
      (cases_lt 0 above))
      (cases_lt t (s + n)))
      (cases_lt t s)

  module _ (lens' ends' : List ℕ) (j : ℕ) (joined : j ≡ below + n + above) (long : length lens' ≡ length lens) (more : length ends' ≡ length ends) (w : (t : ℕ) → Way lens lens' (s + n) p j t) (v : (e : ℕ) → Way ends ends' s (s + n + above) j e) where
    end_is : p + j ≡ s + n + above
    end_is = let q = p_is in omega (arith, q, joined)

    joined_here : get_or lens' p 0 ≡ j
    joined_here = go (w p)
      where
        go : Way lens lens' (s + n) p j p → get_or lens' p 0 ≡ j
        go (is_set x e) = e
        go (is_gone x y e) = absurd (x refl)
        go (is_kept x y e) = absurd (x refl)

    within_by : (t : ℕ) → Way lens lens' (s + n) p j t → 0 < get_or lens' t 0 → t + get_or lens' t 0 ≤ length lens'
    within_by t (is_set x e) a = let d = end_is in let u = top in omega (arith, x, e, d, u, long)
    within_by t (is_gone x y e) a = absurd (omega (arith, e, a))
    within_by t (is_kept x y e) a = let d = tags.within t (omega (arith, e, a)) in omega (arith, d, e, long)

    apart_by : (u t : ℕ) → Way lens lens' (s + n) p j u → Way lens lens' (s + n) p j t → u < t → 0 < get_or lens' u 0 → 0 < get_or lens' t 0 → u + get_or lens' u 0 < t
    apart_by u t (is_gone x y e) z lt a b = absurd (omega (arith, e, a))
    apart_by u t (is_set x e) (is_gone q r f) lt a b = absurd (omega (arith, f, b))
    apart_by u t (is_set x e) (is_set q f) lt a b = absurd (omega (arith, x, q, lt))
    apart_by u t (is_set x e) (is_kept q r f) lt a b = let h = above_it t (omega (arith, x, lt)) r (omega (arith, f, b)) in let d = end_is in omega (arith, h, x, e, d)
    apart_by u t (is_kept x y e) (is_gone q r f) lt a b = absurd (omega (arith, f, b))
    apart_by u t (is_kept x y e) (is_set q f) lt a b = let h = below_it u (omega (arith, q, lt)) (omega (arith, e, a)) in omega (arith, h, e, q)
    apart_by u t (is_kept x y e) (is_kept q r f) lt a b = let h = tags.apart u t lt (omega (arith, e, a)) (omega (arith, f, b)) in omega (arith, h, e)

    -- no hole that stays ends where the joined one does
    ends_else : (t : ℕ) → t ≢ s + n → 0 < get_or lens t 0 → t + get_or lens t 0 ≡ s + n + above → ⊥
    ends_else t ne x e = ⊎_elim {C = ⊥}
        (λ (y : 0 < above). ⊎_elim {C = ⊥}
        (λ (z : t < s + n). let a = tags.apart t (s + n) z x (omega (arith, is_above, y)) in omega (arith, a, e))
        (λ (z : s + n ≤ t). let a = tags.apart (s + n) t (omega (arith, z, ne)) (omega (arith, is_above, y)) x in omega (arith, a, is_above, e))
        (cases_lt t (s + n)))
        (λ (y : above ≤ 0). clear (s + n - 1) t (omega (arith, some)) (omega (arith, some)) (omega (arith, e, y, x)) (omega (arith, e, y, some)))
        (cases_lt 0 above)

    ending_by : (t : ℕ) → Way lens lens' (s + n) p j t → Way ends ends' s (s + n + above) j (t + get_or lens' t 0) → 0 < get_or lens' t 0 → get_or ends' (t + get_or lens' t 0) 0 ≡ get_or lens' t 0
    ending_by t (is_gone x y e) z a = absurd (omega (arith, e, a))
    ending_by t (is_set x e) (is_set q f) a = f ∙ sym e
    ending_by t (is_set x e) (is_gone q r f) a = let d = end_is in absurd (q (omega (arith, x, e, d)))
    ending_by t (is_set x e) (is_kept q r f) a = let d = end_is in absurd (q (omega (arith, x, e, d)))
    ending_by t (is_kept x y e) (is_set q f) a = absurd (ends_else t y (omega (arith, e, a)) (omega (arith, e, q)))
    ending_by t (is_kept x y e) (is_gone q r f) a =
        let g = tags.ending t (omega (arith, e, a)) in
        let same : t + get_or lens t 0 ≡ s = omega (arith, e, r) in
        let h : get_or ends s 0 ≡ get_or lens t 0 = ap (λ (k : ℕ). get_or ends k 0) (sym same) ∙ g in
        absurd (x (omega (arith, h, is_below, same, at_p)))
    ending_by t (is_kept x y e) (is_kept q r f) a =
        f ∙ subst (λ (m : ℕ). get_or ends (t + m) 0 ≡ m) (sym e) (tags.ending t (omega (arith, e, a)))

    starting_by : (e : ℕ) → Way ends ends' s (s + n + above) j e → 0 < get_or ends' e 0 → (get_or ends' e 0 ≤ e) × (get_or lens' (e - get_or ends' e 0) 0 ≡ get_or ends' e 0)
    starting_by e (is_set x f) a =
        let d = end_is in
        let z : e - get_or ends' e 0 ≡ p = omega (arith, x, f, d) in
        (omega (arith, x, f, d), ap (λ (k : ℕ). get_or lens' k 0) z ∙ joined_here ∙ sym f)
    starting_by e (is_gone x y f) a = absurd (omega (arith, f, a))
    starting_by e (is_kept x y f) a =
        let g = tags.starting e (omega (arith, f, a)) in
        subst (λ (m : ℕ). (m ≤ e) × (get_or lens' (e - m) 0 ≡ m)) (sym f) (g.0, go (w (e - get_or ends e 0)) g)
      where
        go : Way lens lens' (s + n) p j (e - get_or ends e 0) → (get_or ends e 0 ≤ e) × (get_or lens (e - get_or ends e 0) 0 ≡ get_or ends e 0) → get_or lens' (e - get_or ends e 0) 0 ≡ get_or ends e 0
        go (is_set q h) g =
            let l = low.1 in
            let b = p_is in
            let here : get_or lens p 0 ≡ get_or ends e 0 = ap (λ (k : ℕ). get_or lens k 0) (sym q) ∙ g.1 in
            absurd (y (omega (arith, here, l, q, g.0, b)))
        go (is_gone q r h) g =
            let here : get_or lens (s + n) 0 ≡ get_or ends e 0 = ap (λ (k : ℕ). get_or lens k 0) (sym r) ∙ g.1 in
            absurd (x (omega (arith, here, is_above, r, g.0)))
        go (is_kept q r h) g = h ∙ g.1

    pub tags_given : holes_of lens' + min below 1 + min above 1 ≡ count + 1 → Tags lens' ends' (count + 1 - min below 1 - min above 1)
    tags_given holes = record {
      small = let d = tags.small in omega (arith, d, long);
      more = let d = tags.more in omega (arith, d, long, more);
      within = λ t x. within_by t (w t) x;
      apart = λ u t lt x y. apart_by u t (w u) (w t) lt x y;
      ending = λ t x. ending_by t (w t) (v (t + get_or lens' t 0)) x;
      starting = λ e x. starting_by e (v e) x;
      counted = omega (arith, holes);
    }

    short : p + j ≤ length lens'
    short = let d = end_is in let u = top in omega (arith, d, u, long)

    out_by : (k : ℕ) → (k < s) ⊎ (s + n ≤ k) → (t : ℕ) → t ≤ k → k < t + get_or lens' t 0 → Way lens lens' (s + n) p j t → get_or (free_units 0 lens) k false ≡ true
    out_by k (inl o) t le lt (is_set x e) = let l = low.1 in let q = p_is in cover 0 lens k p (omega (arith, o, inside)) (omega (arith, x, le)) (omega (arith, o, l, q))
    out_by k (inr o) t le lt (is_set x e) = let d = end_is in let u = top in cover 0 lens k (s + n) (omega (arith, lt, x, e, d, u)) o (omega (arith, lt, x, e, d, is_above))
    out_by k o t le lt (is_gone x y e) = absurd (omega (arith, e, le, lt))
    out_by k o t le lt (is_kept x y e) = cover 0 lens k t (let d = tags.within t (omega (arith, e, le, lt)) in omega (arith, d, e, lt)) le (omega (arith, e, lt))

    back_by : (k t : ℕ) → t ≤ k → k < t + get_or lens t 0 → Way lens lens' (s + n) p j t → get_or (free_units 0 lens') k false ≡ true
    back_by k t le lt (is_set x e) =
        let l = low.1 in
        let q = p_is in
        let h = joined_here in
        let b = short in
        let here : get_or lens t 0 ≡ get_or lens p 0 = ap (λ (i : ℕ). get_or lens i 0) x in
        cover 0 lens' k p (omega (arith, b, lt, here, x, l, joined)) (omega (arith, x, le)) (omega (arith, h, lt, here, x, l, joined))
    back_by k t le lt (is_gone x y e) =
        let d = end_is in
        let q = p_is in
        let h = joined_here in
        let b = short in
        let here : get_or lens t 0 ≡ get_or lens (s + n) 0 = ap (λ (i : ℕ). get_or lens i 0) y in
        cover 0 lens' k p (omega (arith, b, lt, here, y, is_above, d)) (omega (arith, y, le, q)) (omega (arith, h, lt, here, y, is_above, d))
    back_by k t le lt (is_kept x y e) = cover 0 lens' k t (let d = tags.within t (omega (arith, le, lt)) in omega (arith, d, lt, long)) le (omega (arith, e, lt))

    pub marked_given : Marked true (free_units 0 lens) (free_units 0 lens') s n
    marked_given = record {
      same_length = length_free 0 lens' ∙ long ∙ sym (length_free 0 lens);
      inside = λ k ge lt. let h = joined_here in let d = end_is in let b = short in let q = p_is in cover 0 lens' k p (omega (arith, b, d, lt)) (omega (arith, q, ge)) (omega (arith, h, d, lt));
      outside = λ k o. bool_same (get_or (free_units 0 lens') k false) (get_or (free_units 0 lens) k false)
          (λ yes. let c = covered lens' k yes in out_by k o c.0 c.1 c.2 (w c.0))
          (λ yes. let c = covered lens k yes in back_by k c.0 c.1 c.2 (w c.0));
    }

-- all that the code's change comes to
pub record Gave (lens ends : List ℕ) (count s n below above : ℕ) : Type 0 where
  pub tags : Tags (set (set lens (s + n) 0) (s - below) (below + n + above)) (set (set ends s 0) (s + n + above) (below + n + above)) (count + 1 - min below 1 - min above 1)
  pub marked : Marked true (free_units 0 lens) (free_units 0 (set (set lens (s + n) 0) (s - below) (below + n + above))) s n
  pub lower : below ≤ s
  pub upper : s + n + above ≤ length lens
  pub counted : min below 1 + min above 1 ≤ count + 1
  pub fits : count ≤ 65536

pub gave : (lens ends : List ℕ) (count : ℕ) → Tags lens ends count → (s n below above : ℕ) → 0 < n → get_or ends s 0 ≡ below → get_or lens (s + n) 0 ≡ above → s + n ≤ length lens → ((k : ℕ) → s ≤ k → k < s + n → get_or (free_units 0 lens) k false ≡ false) → Gave lens ends count s n below above
gave lens ends count tags s n below above some is_below is_above inside taken =
    let p : ℕ = s - below in
    let j : ℕ = below + n + above in
    let lens' : List ℕ = set (set lens (s + n) 0) (s - below) (below + n + above) in
    let ends' : List ℕ = set (set ends s 0) (s + n + above) (below + n + above) in
    let lower = low lens ends count tags s n below above (s - below) some is_below is_above inside taken refl in
    let upper = top lens ends count tags s n below above (s - below) some is_below is_above inside taken refl in
    let same : get_or (set lens (s + n) 0) (s - below) 0 ≡ get_or lens (s - below) 0 = get_or-set_other lens (s + n) (s - below) 0 0 (omega (arith, some)) in
    let first = holes_change lens (s + n) 0 (λ _. refl) in
    let cut : length (set lens (s + n) 0) ≡ length lens = length-set lens (s + n) 0 in
    let second = holes_change (set lens (s + n) 0) (s - below) (below + n + above) (λ le. absurd (omega (arith, le, cut, inside, some))) in
    let counted = tags.counted in
    let l1 = lower.1 in
    let holes : holes_of lens' + min below 1 + min above 1 ≡ count + 1 = omega (arith, first, second, same, l1, is_above, some, counted) in
    let long = length_sets lens (s + n) (s - below) (below + n + above) in
    let more = length_sets ends s (s + n + above) (below + n + above) in
    let w : (t : ℕ) → Way lens lens' (s + n) (s - below) (below + n + above) t = λ t. way_of lens (s + n) (s - below) (below + n + above) t (λ le. absurd (omega (arith, le, inside, some))) in
    let v : (e : ℕ) → Way ends ends' s (s + n + above) (below + n + above) e = λ e. way_of ends s (s + n + above) (below + n + above) e (λ le. absurd (let m = tags.more in omega (arith, le, m, upper))) in
    let most = holes_most lens in
    let small = tags.small in
    record {
      tags = tags_given lens ends count tags s n below above (s - below) some is_below is_above inside taken refl lens' ends' (below + n + above) refl long more w v holes;
      marked = marked_given lens ends count tags s n below above (s - below) some is_below is_above inside taken refl lens' ends' (below + n + above) refl long more w v;
      lower = lower.0;
      upper = upper;
      counted = omega (arith, holes);
      fits = omega (arith, counted, most, small);
    }

-- as the code reads it
pub gave_seen : (lens ends : List ℕ) (count : ℕ) (units : List Bool) → Tags lens ends count → free_units 0 lens ≡ units → (place len below above : ℕ) → 0 < len → place % 16 ≡ 0 → len % 16 ≡ 0 → place + len ≤ 16 * length units
    → ((k : ℕ) → place / 16 ≤ k → k < place / 16 + len / 16 → get_or units k false ≡ false) → below ≡ get_or ends (place / 16) below → above ≡ get_or lens (place / 16 + len / 16) 0
    → Gave lens ends count (place / 16) (len / 16) below above
gave_seen lens ends count units tags view place len below above some p q inside taken b a =
    let long : length lens ≡ length units = sym (length_free 0 lens) ∙ ap (λ (us : List Bool). length us) view in
    let more = tags.more in
    let within : place / 16 + len / 16 ≤ length lens = omega (arith, long, inside, p, q) in
    gave lens ends count tags (place / 16) (len / 16) below above (omega (arith, some, q))
    (get_or_default ends (place / 16) 0 below (omega (arith, within, more)) ∙ sym b) (sym a) within
    (λ k ge lt. subst (λ (us : List Bool). get_or us k false ≡ false) (sym view) (taken k ge lt))
