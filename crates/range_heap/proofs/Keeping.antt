-- The parts of a heap keep what they say of its history, at a grant, a refusal and a release.
use Rattle.std.proofs.Common.{zero, suc, ◌≡◌, ◌≢◌, ◌⊎◌, ⊎_elim, inl, inr, ℕ, ◌+◌, ◌-◌, ◌*◌, ◌/◌, ◌%◌, ◌<◌, ◌≤◌, Bool, true, false, cond, nat_eq, List, [], ◌∷◌, ◌++◌, length, get_or, set, Option, Some, None, refl, sym, ap, ◌∙◌, subst, arith, get_or-set_same, get_or-set_other, length-set}
use Rattle.std.proofs.lemmas.Bool.{cases_lt}
use Rattle.std.proofs.lemmas.Bool.Decides.{eqb_tells}
use Rattle.hole_list.specs.Units.{IsRun, IsLowestRun, Marked}
use Rattle.range_heap.specs.declared.call.HeapCall.{HeapCall}
use Rattle.range_heap.specs.declared.call.HeapEvent.TheVariants.{Grant, Refuse, Release}
use Rattle.range_heap.specs.Blocks.{rounded, without, blocks_after, live_blocks, size_in, live_at, live, IsClear}
use Rattle.range_heap.specs.History.{region, call_of, FitsAt, MayFollow}
use Rattle.range_heap.specs.Sound.{Sound}
use Rattle.range_heap.proofs.Clear.{rounded_some, rounded_units, clear_part, clear_units, clear_of, clear_without, clear_after, clear_again, size_without}
use Rattle.range_heap.proofs.Histories.{blocks_from-snoc, legal-snoc, legal_good, within_at}

true_within : (us : List Bool) (k : ℕ) → get_or us k false ≡ true → k < length us
true_within [] k e = absurd (cc)
true_within (u ∷ us) zero e = omega arith
true_within (u ∷ us) (suc k) e = omega (arith, true_within us k e)

split_at : (k s n : ℕ) → ((s ≤ k) × (k < s + n)) ⊎ ((k < s) ⊎ (s + n ≤ k))
split_at k s n = ⊎_elim (λ (x : k < s). inr (inl x)) (λ (x : s ≤ k). ⊎_elim (λ (y : k < s + n). inl (x, y)) (λ (y : s + n ≤ k). inr (inr y)) (cases_lt k (s + n))) (cases_lt k s)

both : (b : Bool) {P : Type 0} → b ≡ false → b ≡ true → P
both b e f = absurd (cc)

module _ (first size : ℕ) (units : List Bool) (sizes : List (Option ℕ)) (h : List HeapCall) (S : Sound first size units sizes h) where
  -- one entry more
  next : (e : HeapCall) (units2 : List Bool) (sizes2 : List (Option ℕ)) → MayFollow (region first size) h e.what → length units2 ≡ length units → length sizes2 ≡ length sizes
      → ((k : ℕ) → k < length sizes → get_or sizes2 k None ≡ size_in (first + 16 * k) (blocks_after (live_blocks h) e.what))
      → ((k : ℕ) → k < length units → get_or units2 k false ≡ true → IsClear (blocks_after (live_blocks h) e.what) (first + 16 * k) 16)
      → ((k : ℕ) → k < length units → IsClear (blocks_after (live_blocks h) e.what) (first + 16 * k) 16 → get_or units2 k false ≡ true)
      → Sound first size units2 sizes2 (h ++ e ∷ [])
  next e units2 sizes2 may lu ls table free covered =
      let same : live_blocks (h ++ e ∷ []) ≡ blocks_after (live_blocks h) e.what = blocks_from-snoc [] h e in
      record {
        first_multiple = S.first_multiple;
        first_below = S.first_below;
        size_multiple = S.size_multiple;
        least = S.least;
        most = S.most;
        unit_count = omega (arith, S.unit_count, lu);
        size_count = omega (arith, S.size_count, ls);
        table = λ k lt. table k (omega (arith, lt, ls)) ∙ ap (λ bs. size_in (first + 16 * k) bs) (sym same);
        free = λ k lt t. subst (λ bs. IsClear bs (first + 16 * k) 16) (sym same) (free k (omega (arith, lt, lu)) t);
        covered = λ k lt c. covered k (omega (arith, lt, lu)) (subst (λ bs. IsClear bs (first + 16 * k) 16) same c);
        legal = legal-snoc (region first size) h e S.legal may;
      }

  -- where units are free, a block fits
  fit_of_run : (req j : ℕ) → IsRun units j (rounded req / 16) → FitsAt (region first size) h req 16 (first + 16 * j)
  fit_of_run req j r =
      let some = rounded_some req in
      let whole = rounded_units req in
      let last : (j + (rounded req / 16 - 1)) < length units = true_within units (j + (rounded req / 16 - 1)) (r (j + (rounded req / 16 - 1)) (omega arith) (omega (arith, some, whole))) in
      let clear : IsClear (live_blocks h) (first + 16 * j) (16 * ((rounded req / 16 - 1) + 1)) = clear_units (live_blocks h) (first + 16 * j) (rounded req / 16 - 1)
      (λ k lt.
      let t = r (j + k) (omega arith) (omega (arith, lt, some, whole)) in
      subst (λ (q : ℕ). IsClear (live_blocks h) q 16) (omega arith) (S.free (j + k) (true_within units (j + k) t) t)) in
      record {
        multiple = omega (arith, S.first_multiple);
        aligned = omega (arith, S.first_multiple);
        above = omega arith;
        within = omega (arith, last, S.unit_count, whole, some);
        clear = subst (λ (n : ℕ). IsClear (live_blocks h) (first + 16 * j) n) (omega (arith, some, whole)) clear;
      }

  -- and where a block fits, they are free
  run_of_fit : (req q j : ℕ) → q ≡ first + 16 * j → FitsAt (region first size) h req 16 q → IsRun units j (rounded req / 16)
  run_of_fit req q j e f k ge lt =
      let whole = rounded_units req in
      S.covered k (omega (arith, lt, S.unit_count, f.within, e, whole)) (clear_part (live_blocks h) q (rounded req) (first + 16 * k) 16 (omega (arith, e, ge)) (omega (arith, e, lt, whole)) f.clear)

  unit_of : (req q : ℕ) → FitsAt (region first size) h req 16 q → (j : ℕ) × (q ≡ first + 16 * j)
  unit_of req q f = ((q - first) / 16, omega (arith, f.multiple, f.above, S.first_multiple))

  pub may_refuse : (req : ℕ) → ((j : ℕ) → IsRun units j (rounded req / 16) → ⊥) → MayFollow (region first size) h (Refuse req)
  may_refuse req none q f = let u = unit_of req q f in none u.0 (run_of_fit req q u.0 u.1 f)

  pub sound_refuse : (who req : ℕ) → ((j : ℕ) → IsRun units j (rounded req / 16) → ⊥) → Sound first size units sizes (h ++ call_of who (Refuse req) ∷ [])
  sound_refuse who req none = next (call_of who (Refuse req)) units sizes (may_refuse req none) refl refl S.table S.free S.covered

  module _ (who req at : ℕ) (units2 : List Bool) (multiple : at % 16 ≡ 0) (within : at + rounded req ≤ size) (lowest : IsLowestRun units (rounded req / 16) (at / 16)) (marked : Marked false units units2 (at / 16) (rounded req / 16)) where
    here : first + 16 * (at / 16) ≡ first + at
    here = omega (arith, multiple)

    fits : FitsAt (region first size) h req 16 (first + at)
    fits = subst (λ (q : ℕ). FitsAt (region first size) h req 16 q) here (fit_of_run req (at / 16) lowest.run)

    pub fresh_place : IsClear (live_blocks h) (first + at) (rounded req)
    fresh_place = fits.clear

    pub may_grant : MayFollow (region first size) h (Grant req (first + at))
    may_grant = (
      fits,
      λ below lt f.
          let u = unit_of req below f in
          lowest.lowest u.0 (omega (arith, u.1, lt, multiple)) (run_of_fit req below u.0 u.1 f),
    )

    pub sound_grant : Sound first size units2 (set sizes (at / 16) (Some req)) (h ++ call_of who (Grant req (first + at)) ∷ [])
    sound_grant =
        let whole = rounded_units req in
        let some = rounded_some req in
        let in_table : at / 16 < length sizes = omega (arith, S.size_count, within, some, multiple) in
        next (call_of who (Grant req (first + at))) units2 (set sizes (at / 16) (Some req)) may_grant marked.same_length (length-set sizes (at / 16) (Some req))
        (λ k lt. ⊎_elim
        (λ (x : (nat_eq k (at / 16) ≡ true) × (k ≡ at / 16)).
        let e1 : get_or (set sizes (at / 16) (Some req)) k None ≡ Some req = ap (λ j. get_or (set sizes (at / 16) (Some req)) j None) x.1 ∙ get_or-set_same sizes (at / 16) (Some req) None in_table in
        let e2 : first + at ≡ first + 16 * k = omega (arith, x.1, multiple) in
        ⊎_elim
        (λ (y : (nat_eq (first + at) (first + 16 * k) ≡ true) × (first + at ≡ first + 16 * k)). e1 ∙ ap (λ t. cond t (Some req) (size_in (first + 16 * k) (live_blocks h))) (sym y.0))
        (λ (y : (nat_eq (first + at) (first + 16 * k) ≡ false) × (first + at ≢ first + 16 * k)). absurd (y.1 e2))
        (eqb_tells (first + at) (first + 16 * k)))
        (λ (x : (nat_eq k (at / 16) ≡ false) × (k ≢ at / 16)).
        let e1 : get_or (set sizes (at / 16) (Some req)) k None ≡ get_or sizes k None = get_or-set_other sizes (at / 16) k (Some req) None x.1 in
        ⊎_elim
        (λ (y : (nat_eq (first + at) (first + 16 * k) ≡ true) × (first + at ≡ first + 16 * k)). absurd (x.1 (omega (arith, y.1, multiple))))
        (λ (y : (nat_eq (first + at) (first + 16 * k) ≡ false) × (first + at ≢ first + 16 * k)). e1 ∙ S.table k lt ∙ ap (λ t. cond t (Some req) (size_in (first + 16 * k) (live_blocks h))) (sym y.0))
        (eqb_tells (first + at) (first + 16 * k)))
        (eqb_tells k (at / 16)))
        (λ k lt t. ⊎_elim
        (λ (i : (at / 16 ≤ k) × (k < at / 16 + rounded req / 16)). both (get_or units2 k false) (marked.inside k i.0 i.1) t)
        (λ (o : (k < at / 16) ⊎ (at / 16 + rounded req / 16 ≤ k)). (
          ⊎_elim {C = (first + 16 * k + 16 ≤ first + at) ⊎ (first + at + rounded req ≤ first + 16 * k)} (λ (x : k < at / 16). inl (omega (arith, x, multiple))) (λ (x : at / 16 + rounded req / 16 ≤ k). inr (omega (arith, x, multiple, whole))) o,
          S.free k lt (sym (marked.outside k o) ∙ t),
        ))
        (split_at k (at / 16) (rounded req / 16)))
        (λ k lt c. ⊎_elim
        (λ (i : (at / 16 ≤ k) × (k < at / 16 + rounded req / 16)).
        absurd (⊎_elim {C = ⊥} (λ (x : first + 16 * k + 16 ≤ first + at). omega (arith, x, i.0, multiple)) (λ (x : first + at + rounded req ≤ first + 16 * k). omega (arith, x, i.1, multiple, whole)) c.0))
        (λ (o : (k < at / 16) ⊎ (at / 16 + rounded req / 16 ≤ k)). marked.outside k o ∙ S.covered k lt c.1)
        (split_at k (at / 16) (rounded req / 16)))

  -- a live block
  module _ (p s : ℕ) (is : live_at p h ≡ Some s) where
    pub block_within : (p % 16 ≡ 0) × (first ≤ p) × (p + rounded s ≤ first + size)
    block_within = within_at (region first size) (live_blocks h) p s (legal_good (region first size) h S.legal).0 is

    pub block_taken : (k : ℕ) → (p - first) / 16 ≤ k → k < (p - first) / 16 + rounded s / 16 → get_or units k false ≡ false
    block_taken k ge lt = go (get_or units k false) refl
      where
        go : (t : Bool) → get_or units k false ≡ t → get_or units k false ≡ false
        go false e = e
        go true e = absurd (⊎_elim {C = ⊥}
            (λ (x : first + 16 * k + 16 ≤ p). omega (arith, x, ge, block_within.0, block_within.1, S.first_multiple))
            (λ (x : p + rounded s ≤ first + 16 * k). omega (arith, x, lt, block_within.0, block_within.1, S.first_multiple, rounded_units s))
            (clear_of (live_blocks h) (first + 16 * k) 16 p s (S.free k (true_within units k e) e) is))

    pub sound_release : (who : ℕ) (units2 : List Bool) → Marked true units units2 ((p - first) / 16) (rounded s / 16) → live p h ≡ true → Sound first size units2 (set sizes ((p - first) / 16) None) (h ++ call_of who (Release p) ∷ [])
    sound_release who units2 marked alive =
        let whole = rounded_units s in
        let some = rounded_some s in
        let b = block_within in
        let apart = (legal_good (region first size) h S.legal).1 in
        let in_table : (p - first) / 16 < length sizes = omega (arith, S.size_count, b.1, b.2, some) in
        let here : first + 16 * ((p - first) / 16) ≡ p = omega (arith, b.0, b.1, S.first_multiple) in
        next (call_of who (Release p)) units2 (set sizes ((p - first) / 16) None) alive marked.same_length (length-set sizes ((p - first) / 16) None)
        (λ k lt. ⊎_elim
        (λ (x : (nat_eq k ((p - first) / 16) ≡ true) × (k ≡ (p - first) / 16)).
        let e1 : get_or (set sizes ((p - first) / 16) None) k None ≡ None = ap (λ j. get_or (set sizes ((p - first) / 16) None) j None) x.1 ∙ get_or-set_same sizes ((p - first) / 16) None None in_table in
        let e2 : p ≡ first + 16 * k = omega (arith, x.1, here) in
        ⊎_elim
        (λ (y : (nat_eq p (first + 16 * k) ≡ true) × (p ≡ first + 16 * k)). e1 ∙ sym (size_without (live_blocks h) p (first + 16 * k) ∙ ap (λ t. cond t None (size_in (first + 16 * k) (live_blocks h))) y.0))
        (λ (y : (nat_eq p (first + 16 * k) ≡ false) × (p ≢ first + 16 * k)). absurd (y.1 e2))
        (eqb_tells p (first + 16 * k)))
        (λ (x : (nat_eq k ((p - first) / 16) ≡ false) × (k ≢ (p - first) / 16)).
        let e1 : get_or (set sizes ((p - first) / 16) None) k None ≡ get_or sizes k None = get_or-set_other sizes ((p - first) / 16) k None None x.1 in
        ⊎_elim
        (λ (y : (nat_eq p (first + 16 * k) ≡ true) × (p ≡ first + 16 * k)). absurd (x.1 (omega (arith, y.1, here))))
        (λ (y : (nat_eq p (first + 16 * k) ≡ false) × (p ≢ first + 16 * k)). e1 ∙ S.table k lt ∙ sym (size_without (live_blocks h) p (first + 16 * k) ∙ ap (λ t. cond t None (size_in (first + 16 * k) (live_blocks h))) y.0))
        (eqb_tells p (first + 16 * k)))
        (eqb_tells k ((p - first) / 16)))
        (λ k lt t. ⊎_elim
        (λ (i : ((p - first) / 16 ≤ k) × (k < (p - first) / 16 + rounded s / 16)).
        clear_part (without p (live_blocks h)) p (rounded s) (first + 16 * k) 16 (omega (arith, i.0, here)) (omega (arith, i.1, here, whole)) (clear_after (live_blocks h) p s apart is))
        (λ (o : (k < (p - first) / 16) ⊎ ((p - first) / 16 + rounded s / 16 ≤ k)).
        clear_without (live_blocks h) p (first + 16 * k) 16 (S.free k lt (sym (marked.outside k o) ∙ t)))
        (split_at k ((p - first) / 16) (rounded s / 16)))
        (λ k lt c. ⊎_elim
        (λ (i : ((p - first) / 16 ≤ k) × (k < (p - first) / 16 + rounded s / 16)). marked.inside k i.0 i.1)
        (λ (o : (k < (p - first) / 16) ⊎ ((p - first) / 16 + rounded s / 16 ≤ k)).
        marked.outside k o ∙ S.covered k lt (clear_again (live_blocks h) p s (first + 16 * k) 16 apart is
        (⊎_elim {C = (first + 16 * k + 16 ≤ p) ⊎ (p + rounded s ≤ first + 16 * k)} (λ (x : k < (p - first) / 16). inl (omega (arith, x, here))) (λ (x : (p - first) / 16 + rounded s / 16 ≤ k). inr (omega (arith, x, here, whole))) o) c))
        (split_at k ((p - first) / 16) (rounded s / 16)))

    pub in_table : (p - first) / 16 < length sizes
    in_table = let b = block_within in omega (arith, S.size_count, b.1, b.2, rounded_some s)

    pub entry_is : get_or sizes ((p - first) / 16) None ≡ Some s
    entry_is =
        let b = block_within in
        let here : first + 16 * ((p - first) / 16) ≡ p = omega (arith, b.0, b.1, S.first_multiple) in
        S.table ((p - first) / 16) in_table ∙ ap (λ q. live_at q h) here ∙ is
