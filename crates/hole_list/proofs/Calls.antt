-- What the calls on a list of holes do to the units that it stands for.
use Rattle.std.proofs.Common.{◌≡◌, ◌≢◌, ⊎_elim, inl, ℕ, suc, ◌+◌, ◌-◌, ◌<◌, ◌≤◌, Bool, true, false, List, [], ◌∷◌, ◌++◌, length, get_or, take, drop, set, sym, ap, ◌∙◌, subst, arith, add-one}
use Rattle.std.proofs.lemmas.Bool.{cases_lt}
use Rattle.std.proofs.lemmas.List.{set_split, set_at, drop_more, take_more, get_or-drop, length-drop, length-take-le, append_assoc, length-append, get_or-take, take-append-drop}
use Rattle.std.specs.List.{insert, remove}
use Rattle.hole_list.specs.Units.{IsLowestRun, Marked}
use Rattle.hole_list.specs.Shape.{units_from, Apart}
use Rattle.hole_list.specs.declared.gap.Hole.{Hole}
use Rattle.hole_list.proofs.Gaps.{Free, next, apart_rest, free_right, is_free, length_units, no_true, parted, short_front, lowest_run, Loses, Gains, marks_taken, marks_free, first_above}
use Rattle.hole_list.proofs.Changes.{hole, served_whole, served_part, grown_up, grown_down, joined, apart_hole}

pub set_parted : (l : List Hole) (i : ℕ) (b : Hole) → i < length l → set l i b ≡ take i l ++ b ∷ drop (i + 1) l
set_parted l i b lt = set_split l i b lt ∙ ap (λ j. take i l ++ b ∷ drop j l) (sym (add-one i))

pub remove_parted : (l : List Hole) (i : ℕ) → remove l i ≡ take i l ++ drop (i + 1) l
remove_parted l i = ap (λ j. take i l ++ drop j l) (sym (add-one i))

pub length-insert : (l : List Hole) (i : ℕ) (b : Hole) → i ≤ length l → length (insert l i b) ≡ length l + 1
length-insert l i b le =
    let e1 = length-append (take i l) (b ∷ drop i l) in
    let e2 = length-take-le i l le in
    let e3 = length-drop i l in
    omega (arith, e1, e2, e3, le)

next_le : (low s : ℕ) (xs : List Hole) → low ≤ s → ((k : ℕ) (d : Hole) → k < length xs → (get_or xs k d).start + (get_or xs k d).len < s) → next low xs ≤ s
next_le low s [] le f = le
next_le low s (x ∷ xs) le f = next_le (x.start + x.len + 1) s xs (omega (arith, f 0 x (omega arith))) (λ k d lt. f (suc k) d (omega (arith, lt)))

-- the holes are seen as these units
module _ (end : ℕ) (old : List Hole) (units : List Bool) (view : units_from 0 end old ≡ units) (a : Apart 0 end old) where
  pub units_are : length units ≡ end
  units_are = let e = length_units 0 end old (omega arith) a in let f = ap (λ us. length us) view in omega (arith, e, f)

  -- n units are taken from the first hole that has them
  module _ (n i : ℕ) (h : Hole) (pos : 0 < n) (lt : i < length old) (e : h ≡ get_or old i h) (fits : n ≤ h.len) (short : (k : ℕ) (d : Hole) → k < i → (get_or old k d).len < n) where
    shape : take i old ++ h ∷ drop (i + 1) old ≡ old
    shape = parted old i h lt e

    whole_is : Apart 0 end (take i old ++ h ∷ drop (i + 1) old)
    whole_is = subst (λ l. Apart 0 end l) (sym shape) a

    pub taken_lowest : IsLowestRun units n h.start
    taken_lowest = subst (λ us. IsLowestRun us n h.start) (ap (λ l. units_from 0 end l) shape ∙ view)
        (lowest_run end (take i old) (drop (i + 1) old) h n whole_is pos (short_front n i old (omega (arith, lt)) short) fits)

    taken_of : (new : List Hole) → Apart 0 end new → Loses (take i old ++ h ∷ drop (i + 1) old) new h.start n → Apart 0 end new × Marked false units (units_from 0 end new) h.start n
    taken_of new b l = (
      b,
      subst (λ us. Marked false us (units_from 0 end new) h.start n) (ap (λ x. units_from 0 end x) shape ∙ view)
          (marks_taken end (take i old ++ h ∷ drop (i + 1) old) new h.start n whole_is b l),
    )

    pub taken_whole : n ≡ h.len → Apart 0 end (remove old i) × Marked false units (units_from 0 end (remove old i)) h.start n
    taken_whole same =
        let r = served_whole end (take i old) (drop (i + 1) old) h whole_is n same in
        subst (λ new. Apart 0 end new × Marked false units (units_from 0 end new) h.start n) (sym (remove_parted old i)) (taken_of (take i old ++ drop (i + 1) old) r.0 r.1)

    pub taken_part : n < h.len → Apart 0 end (set old i (hole (h.start + n) (h.len - n))) × Marked false units (units_from 0 end (set old i (hole (h.start + n) (h.len - n)))) h.start n
    taken_part less =
        let r = served_part end (take i old) (drop (i + 1) old) h whole_is n pos less in
        subst (λ new. Apart 0 end new × Marked false units (units_from 0 end new) h.start n) (sym (set_parted old i (hole (h.start + n) (h.len - n)) lt)) (taken_of (take i old ++ hole (h.start + n) (h.len - n) ∷ drop (i + 1) old) r.0 r.1)

  -- n units from s on are given back, and hole i is the first that ends at s or above
  module _ (s n i : ℕ) (pos : 0 < n) (inside : s + n ≤ length units) (taken : (k : ℕ) → s ≤ k → k < s + n → get_or units k false ≡ false) (le : i ≤ length old) (before : (k : ℕ) (d : Hole) → k < i → (get_or old k d).start + (get_or old k d).len < s) where
    within : s + n ≤ end
    within = omega (arith, inside, units_are)

    clear : (k : ℕ) → s ≤ k → k < s + n → Free old k → ⊥
    clear k ge lt f = no_true (get_or units k false) (taken k ge lt) (subst (λ us. get_or us k false ≡ true) view (is_free end old k a f))

    near : next 0 (take i old) ≤ s
    near = next_le 0 s (take i old) (omega arith) (λ k d lt.
        let below : k < i = (let e = length-take-le i old le in omega (arith, e, lt)) in
        subst (λ (h : Hole). h.start + h.len < s) (sym (get_or-take i old k d below)) (before k d below))

    -- holes behind that reach above s and do not begin at the end
    far : (low : ℕ) (zs : List Hole) → Apart low end zs → ((k : ℕ) → Free zs k → Free old k) → ((d : Hole) → 0 < length zs → s < (get_or zs 0 d).start + (get_or zs 0 d).len) → ((d : Hole) → 0 < length zs → (get_or zs 0 d).start ≢ s + n) → Apart (s + n + 1) end zs
    far low [] b f reach touch = tt
    far low (q ∷ zs) b f reach touch =
        let r : s < q.start + q.len = reach q (omega arith) in
        let above : s < q.start = ⊎_elim (λ (lt : s < q.start). lt) (λ (ge : q.start ≤ s). absurd (clear s (omega arith) (omega (arith, pos)) (f s (inl (ge, r))))) (cases_lt s q.start) in
        let past : s + n ≤ q.start = ⊎_elim (λ (lt : q.start < s + n). absurd (clear q.start (omega (arith, above)) lt (f q.start (inl (omega arith, omega (arith, b.1)))))) (λ (ge : s + n ≤ q.start). ge) (cases_lt q.start (s + n)) in
        let apart : q.start ≢ s + n = touch q (omega arith) in
        (omega (arith, past, apart), b.1, b.2, b.3)

    given_of : (new : List Hole) → Apart 0 end new → Gains old new s n → Apart 0 end new × Marked true units (units_from 0 end new) s n
    given_of new b g = (b, subst (λ us. Marked true us (units_from 0 end new) s n) view (marks_free end old new s n a b g))

    at_drop : (j : ℕ) (d : Hole) → get_or (drop j old) 0 d ≡ get_or old j d
    at_drop j d = get_or-drop j old 0 d ∙ ap (λ k. get_or old k d) (omega arith)

    in_drop : (j k : ℕ) → Free (drop j old) k → Free old k
    in_drop j k f = subst (λ l. Free l k) (take-append-drop j old) (free_right (take j old) (drop j old) k f)

    module _ (h : Hole) (lt : i < length old) (e : h ≡ get_or old i h) where
      shape_at : take i old ++ h ∷ drop (i + 1) old ≡ old
      shape_at = parted old i h lt e

      whole_at : Apart 0 end (take i old ++ h ∷ drop (i + 1) old)
      whole_at = subst (λ l. Apart 0 end l) (sym shape_at) a

      gains_at : (new : List Hole) → Gains (take i old ++ h ∷ drop (i + 1) old) new s n → Gains old new s n
      gains_at new g = subst (λ l. Gains l new s n) shape_at g

      pub given_up : h.start + h.len ≡ s → (i + 1 < length old → (d : Hole) → (get_or old (i + 1) d).start ≢ s + n) → Apart 0 end (set old i (hole h.start (h.len + n))) × Marked true units (units_from 0 end (set old i (hole h.start (h.len + n)))) s n
      given_up ends touch =
          let rest = apart_rest 0 end (take i old) (h ∷ drop (i + 1) old) whole_at in
          let long = length-drop (i + 1) old in
          let behind : Apart (s + n + 1) end (drop (i + 1) old) = far (h.start + h.len + 1) (drop (i + 1) old) rest.3 (in_drop (i + 1))
          (λ d some. let w = first_above (h.start + h.len + 1) end (drop (i + 1) old) d rest.3 some in omega (arith, w, ends))
          (λ d some. subst (λ (q : Hole). q.start ≢ s + n) (sym (at_drop (i + 1) d)) (touch (omega (arith, some, long)) d)) in
          let r = grown_up end (take i old) (drop (i + 1) old) h whole_at s n ends within behind in
          subst (λ new. Apart 0 end new × Marked true units (units_from 0 end new) s n) (sym (set_parted old i (hole h.start (h.len + n)) lt))
          (given_of (take i old ++ hole h.start (h.len + n) ∷ drop (i + 1) old) r.0 (gains_at (take i old ++ hole h.start (h.len + n) ∷ drop (i + 1) old) r.1))

      pub given_down : s + n ≡ h.start → Apart 0 end (set old i (hole s (n + h.len))) × Marked true units (units_from 0 end (set old i (hole s (n + h.len)))) s n
      given_down begins =
          let r = grown_down end (take i old) (drop (i + 1) old) h whole_at s n begins pos near in
          subst (λ new. Apart 0 end new × Marked true units (units_from 0 end new) s n) (sym (set_parted old i (hole s (n + h.len)) lt))
          (given_of (take i old ++ hole s (n + h.len) ∷ drop (i + 1) old) r.0 (gains_at (take i old ++ hole s (n + h.len) ∷ drop (i + 1) old) r.1))

      pub given_joined : (q : Hole) → i + 1 < length old → q ≡ get_or old (i + 1) q → h.start + h.len ≡ s → q.start ≡ s + n → Apart 0 end (set (remove old (i + 1)) i (hole h.start (h.len + n + q.len))) × Marked true units (units_from 0 end (set (remove old (i + 1)) i (hole h.start (h.len + n + q.len)))) s n
      given_joined q more eq ends begins =
          let xs = take i old in
          let ys = drop (i + 1 + 1) old in
          let new = hole h.start (h.len + n + q.len) in
          let behind : drop (i + 1) old ≡ q ∷ ys = drop_more old (i + 1) q more ∙ ap (λ x. x ∷ ys) (sym eq) in
          let all : xs ++ h ∷ q ∷ ys ≡ old = ap (λ l. xs ++ h ∷ l) (sym behind) ∙ shape_at in
          let r = joined end xs ys h q s n (subst (λ l. Apart 0 end l) (sym all) a) ends begins in
          let front : take (i + 1) old ≡ xs ++ h ∷ [] = take_more old i h lt ∙ ap (λ x. xs ++ x ∷ []) (sym e) in
          let removed : remove old (i + 1) ≡ xs ++ h ∷ ys = remove_parted old (i + 1) ∙ ap (λ l. l ++ ys) front ∙ append_assoc xs (h ∷ []) ys in
          let changed : set (remove old (i + 1)) i new ≡ xs ++ new ∷ ys = ap (λ l. set l i new) removed ∙ set_at xs h ys new i (length-take-le i old le) in
          subst (λ l. Apart 0 end l × Marked true units (units_from 0 end l) s n) (sym changed)
          (given_of (xs ++ new ∷ ys) r.0 (subst (λ l. Gains l (xs ++ new ∷ ys) s n) all r.1))

    pub given_new : (i < length old → (d : Hole) → s ≤ (get_or old i d).start + (get_or old i d).len) → (i < length old → (d : Hole) → (get_or old i d).start + (get_or old i d).len ≢ s) → (i < length old → (d : Hole) → (get_or old i d).start ≢ s + n) → Apart 0 end (insert old i (hole s n)) × Marked true units (units_from 0 end (insert old i (hole s n))) s n
    given_new reach ends begins =
        let both : take i old ++ drop i old ≡ old = take-append-drop i old in
        let ab : Apart 0 end (take i old ++ drop i old) = subst (λ l. Apart 0 end l) (sym both) a in
        let long = length-drop i old in
        let behind : Apart (s + n + 1) end (drop i old) = far (next 0 (take i old)) (drop i old) (apart_rest 0 end (take i old) (drop i old) ab) (in_drop i)
        (λ d some. subst (λ (q : Hole). s < q.start + q.len) (sym (at_drop i d)) (let x = reach (omega (arith, some, long)) d in let y = ends (omega (arith, some, long)) d in omega (arith, x, y)))
        (λ d some. subst (λ (q : Hole). q.start ≢ s + n) (sym (at_drop i d)) (begins (omega (arith, some, long)) d)) in
        let r = apart_hole end (take i old) (drop i old) s n ab pos within near behind in
        given_of (take i old ++ hole s n ∷ drop i old) r.0 (subst (λ l. Gains l (take i old ++ hole s n ∷ drop i old) s n) both r.1)
