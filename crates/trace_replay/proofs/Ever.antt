-- The storage of a range that was ever granted, by unit.
use Rattle.std.proofs.Common.{zero, suc, ◌≡◌, ◌⊎◌, ⊎_elim, inl, inr, ℕ, ◌+◌, ◌-◌, ◌*◌, ◌/◌, ◌%◌, ◌<◌, ◌≤◌, Bool, true, false, ◌&&◌, ◌||◌, cond, leb, List, [], ◌∷◌, ◌++◌, length, get_or, set, replicate, refl, sym, ap, ◌∙◌, subst, arith}
use Rattle.std.specs.Prelude.{max, nat_lt}
use Rattle.std.proofs.lemmas.Bool.{cases_lt, le-leb, lt-leb, lt-ltb, le-ltb}
use Rattle.std.proofs.lemmas.List.{append-nil, append_assoc}
use Rattle.range_heap.specs.declared.call.HeapCall.{HeapCall}
use Rattle.range_heap.specs.declared.call.HeapEvent.{HeapEvent}
use Rattle.range_heap.specs.declared.call.HeapEvent.TheVariants.{Grant, Refuse, Release}
use Rattle.range_heap.specs.Blocks.{rounded}
use Rattle.range_heap.specs.History.{region, MayFollow, LegalFrom, Legal}
use Rattle.range_heap.proofs.Clear.{rounded_units}
use Rattle.trace_replay.specs.Report.{grants_address, ever_granted, count_below, granted_below}
use Rattle.trace_replay.specs.Tables.{units_of, unit_at, unit_count, marked, marked_from, table, covered}
use Rattle.trace_replay.specs.declared.tables.Kept.TheVariants.{Ever}
use Rattle.trace_replay.proofs.Live.{unit_below, unit_place, units_are, long_table}

-- ---- tests

same_leb : (a b c d : ℕ) → (a ≤ b → c ≤ d) → (c ≤ d → a ≤ b) → leb a b ≡ leb c d
same_leb a b c d f g = ⊎_elim
    (λ (x : b < a). lt-leb a b x ∙ sym (lt-leb c d (⊎_elim {C = d < c} (λ (y : d < c). y) (λ (y : c ≤ d). let z = g y in absurd (omega (arith, x, z))) (cases_lt d c))))
    (λ (x : a ≤ b). le-leb a b x ∙ sym (le-leb c d (f x)))
    (cases_lt b a)

same_lt : (a b c d : ℕ) → (a < b → c < d) → (c < d → a < b) → nat_lt a b ≡ nat_lt c d
same_lt a b c d f g = ⊎_elim
    (λ (x : a < b). lt-ltb a b x ∙ sym (lt-ltb c d (f x)))
    (λ (x : b ≤ a). le-ltb a b x ∙ sym (le-ltb c d (⊎_elim {C = d ≤ c} (λ (y : c < d). let z = g y in absurd (omega (arith, x, z))) (λ (y : d ≤ c). y) (cases_lt c d))))
    (cases_lt a b)

lt_max : (k a b : ℕ) → nat_lt k (max a b) ≡ nat_lt k a || nat_lt k b
lt_max k a b = ⊎_elim
    (λ (x : k < a). lt-ltb k (max a b) (omega (arith, x)) ∙ sym (ap (λ (t : Bool). t || nat_lt k b) (lt-ltb k a x)))
    (λ (x : a ≤ k). ⊎_elim
    (λ (y : k < b). lt-ltb k (max a b) (omega (arith, y)) ∙ sym (ap (λ (t : Bool). t || nat_lt k b) (le-ltb k a x) ∙ lt-ltb k b y))
    (λ (y : b ≤ k). le-ltb k (max a b) (omega (arith, x, y)) ∙ sym (ap (λ (t : Bool). t || nat_lt k b) (le-ltb k a x) ∙ le-ltb k b y))
    (cases_lt k b))
    (cases_lt k a)

or_assoc : (a b c : Bool) → a || (b || c) ≡ (a || b) || c
or_assoc true b c = refl
or_assoc false b c = refl

or_false : (a : Bool) → a || false ≡ a
or_false true = refl
or_false false = refl

spread : (a p q c : Bool) → (a && (p || q)) || c ≡ ((a && p) || c) || (a && q)
spread true true q c = refl
spread true false true true = refl
spread true false true false = refl
spread true false false true = refl
spread true false false false = refl
spread false p q true = refl
spread false p q false = refl

-- ---- which units a table covers

abbrev covers : ℕ → List ℕ → ℕ → Bool
covers i [] k = false
covers i (u ∷ us) k = (leb i k && nat_lt k (i + u)) || covers (i + 1) us k

plus_max : (i a b : ℕ) → i + max a b ≡ max (i + a) (i + b)
plus_max i a b = omega arith

covers_set : (i : ℕ) (us : List ℕ) (u x k : ℕ) → u < length us → covers i (set us u (max (get_or us u 0) x)) k ≡ covers i us k || (leb (i + u) k && nat_lt k (i + u + x))
covers_set i [] u x k lt = absurd (omega (arith, lt))
covers_set i (v ∷ vs) zero x k lt =
    let zero_more : i + 0 ≡ i = omega arith in
    ap (λ (e : ℕ). (leb i k && nat_lt k e) || covers (i + 1) vs k) (plus_max i v x)
    ∙ ap (λ (t : Bool). (leb i k && t) || covers (i + 1) vs k) (lt_max k (i + v) (i + x))
    ∙ spread (leb i k) (nat_lt k (i + v)) (nat_lt k (i + x)) (covers (i + 1) vs k)
    ∙ ap (λ (e : ℕ). ((leb i k && nat_lt k (i + v)) || covers (i + 1) vs k) || (leb e k && nat_lt k (e + x))) (sym zero_more)
covers_set i (v ∷ vs) (suc u) x k lt =
    let next : i + 1 + u ≡ i + suc u = omega arith in
    ap (λ (t : Bool). (leb i k && nat_lt k (i + v)) || t) (covers_set (i + 1) vs u x k (omega (arith, lt)))
    ∙ or_assoc (leb i k && nat_lt k (i + v)) (covers (i + 1) vs k) (leb (i + 1 + u) k && nat_lt k (i + 1 + u + x))
    ∙ ap (λ (e : ℕ). ((leb i k && nat_lt k (i + v)) || covers (i + 1) vs k) || (leb e k && nat_lt k (e + x))) next

covers_zero : (i n k : ℕ) → covers i (replicate n 0) k ≡ false
covers_zero i zero k = refl
covers_zero i (suc n) k =
    ap (λ (t : Bool). t || covers (i + 1) (replicate n 0) k) (none (cases_lt k i)) ∙ covers_zero (i + 1) n k
  where
    none : (k < i) ⊎ (i ≤ k) → leb i k && nat_lt k (i + 0) ≡ false
    none (inl x) = ap (λ (t : Bool). t && nat_lt k (i + 0)) (lt-leb i k x)
    none (inr x) = ap (λ (t : Bool). t && nat_lt k (i + 0)) (le-leb i k x) ∙ le-ltb k (i + 0) (omega (arith, x))

covers_below : (i : ℕ) (us : List ℕ) (k : ℕ) → k < i → covers i us k ≡ false
covers_below i [] k lt = refl
covers_below i (u ∷ us) k lt =
    ap (λ (t : Bool). (t && nat_lt k (i + u)) || covers (i + 1) us k) (lt-leb i k lt) ∙ covers_below (i + 1) us k (omega (arith, lt))

-- ---- the table of the largest blocks

ever_one : (a : ℕ) (h : List HeapCall) (e : HeapCall) → ever_granted a (h ++ e ∷ []) ≡ ever_granted a h || grants_address a e.what
ever_one a [] e = or_false (grants_address a e.what)
ever_one a (x ∷ xs) e = ap (λ (t : Bool). grants_address a x.what || t) (ever_one a xs e) ∙ or_assoc (grants_address a x.what) (ever_granted a xs) (grants_address a e.what)

record EverTable (first size : ℕ) (us : List ℕ) (h : List HeapCall) : Type 0 where
  long : length us ≡ unit_count size
  at : (k j : ℕ) → j < 16 → covers 0 us k ≡ ever_granted (16 * (first / 16 + k) + j) h

address_in : (first size n p k j : ℕ) → size % 16 ≡ 0 → size ≤ 1048576 → p % 16 ≡ 0 → first ≤ p → p + rounded n ≤ first + size → j < 16 → leb (0 + unit_at first p) k && nat_lt k (0 + unit_at first p + units_of n) ≡ grants_address (16 * (first / 16 + k) + j) (Grant n p)
address_in first size n p k j multiple most aligned above within lt =
    let place = unit_place first p aligned above in
    let units = units_are first size p n above within most in
    let whole = rounded_units n in
    let low = same_leb (0 + unit_at first p) k p (16 * (first / 16 + k) + j) (λ x. omega (arith, place, x)) (λ x. omega (arith, place, x, lt)) in
    let high = same_lt k (0 + unit_at first p + units_of n) (16 * (first / 16 + k) + j) (p + rounded n) (λ x. omega (arith, place, units, whole, x, lt)) (λ x. omega (arith, place, units, whole, x)) in
    ap (λ (t : Bool). t && nat_lt k (0 + unit_at first p + units_of n)) low ∙ ap (λ (t : Bool). leb p (16 * (first / 16 + k) + j) && t) high

ever_step : (first size : ℕ) (done : List HeapCall) (us : List ℕ) (who : ℕ) (w : HeapEvent) → size % 16 ≡ 0 → size ≤ 1048576 → MayFollow (region first size) done w → EverTable first size us done → EverTable first size (marked Ever first us w) (done ++ record { who = who; what = w } ∷ [])
ever_step first size done us who (Grant n p) multiple most m h =
    let below = unit_below first size p n m.0.multiple m.0.above m.0.within multiple in
    let long = h.long in
    record {
      long = length_set us (unit_at first p) (max (get_or us (unit_at first p) 0) (units_of n)) ∙ h.long;
      at = λ k j lt.
          covers_set 0 us (unit_at first p) (units_of n) k (omega (arith, below, long))
          ∙ ap (λ (t : Bool). t || (leb (0 + unit_at first p) k && nat_lt k (0 + unit_at first p + units_of n))) (h.at k j lt)
          ∙ ap (λ (t : Bool). ever_granted (16 * (first / 16 + k) + j) done || t) (address_in first size n p k j multiple most m.0.multiple m.0.above m.0.within lt)
          ∙ sym (ever_one (16 * (first / 16 + k) + j) done (record { who = who; what = Grant n p }));
    }
  where
    length_set : (xs : List ℕ) (i x : ℕ) → length (set xs i x) ≡ length xs
    length_set [] i x = refl
    length_set (y ∷ ys) zero x = refl
    length_set (y ∷ ys) (suc i) x = ap suc (length_set ys i x)
ever_step first size done us who (Refuse n) multiple most m h = record {
  long = h.long;
  at = λ k j lt. h.at k j lt ∙ sym (ever_one (16 * (first / 16 + k) + j) done (record { who = who; what = Refuse n }) ∙ or_false (ever_granted (16 * (first / 16 + k) + j) done));
}
ever_step first size done us who (Release p) multiple most m h = record {
  long = h.long;
  at = λ k j lt. h.at k j lt ∙ sym (ever_one (16 * (first / 16 + k) + j) done (record { who = who; what = Release p }) ∙ or_false (ever_granted (16 * (first / 16 + k) + j) done));
}

ever_from : (first size : ℕ) (done h : List HeapCall) (us : List ℕ) → size % 16 ≡ 0 → size ≤ 1048576 → LegalFrom (region first size) done h → EverTable first size us done → EverTable first size (marked_from Ever first us h) (done ++ h)
ever_from first size done [] us multiple most l t = subst (λ (d : List HeapCall). EverTable first size us d) (sym (append-nil done)) t
ever_from first size done (e ∷ es) us multiple most l t =
    subst (λ (d : List HeapCall). EverTable first size (marked_from Ever first (marked Ever first us e.what) es) d) (append_assoc done (e ∷ []) es)
    (ever_from first size (done ++ e ∷ []) es (marked Ever first us e.what) multiple most l.1 (ever_step first size done us e.who e.what multiple most l.0 t))

-- ---- counting from below and from above

count_from : ℕ → ℕ → (ℕ → Bool) → ℕ
count_from i zero f = 0
count_from i (suc n) f = cond (f i) 1 0 + count_from (i + 1) n f

count_same : (i n : ℕ) (f g : ℕ → Bool) → ((k : ℕ) → i ≤ k → f k ≡ g k) → count_from i n f ≡ count_from i n g
unfolding count_from
count_same i zero f g e = refl
count_same i (suc n) f g e =
    ap (λ (b : Bool). cond b 1 0 + count_from (i + 1) n f) (e i (omega arith)) ∙ ap (λ (x : ℕ). cond (g i) 1 0 + x) (count_same (i + 1) n f g (λ k le. e k (omega (arith, le))))

covered_is : (i end : ℕ) (us : List ℕ) → covered i end us ≡ count_from i (length us) (λ k. nat_lt k end || covers i us k)
unfolding count_from
covered_is i end [] = refl
covered_is i end (u ∷ us) =
    let here : nat_lt i (max end (i + u)) ≡ nat_lt i end || ((leb i i && nat_lt i (i + u)) || covers (i + 1) us i) =
    lt_max i end (i + u)
    ∙ ap (λ (t : Bool). nat_lt i end || t) (sym (ap (λ (t : Bool). (t && nat_lt i (i + u)) || covers (i + 1) us i) (le-leb i i (omega arith)) ∙ ap (λ (t : Bool). nat_lt i (i + u) || t) (covers_below (i + 1) us i (omega arith)) ∙ or_false (nat_lt i (i + u)))) in
    let later : (k : ℕ) → i + 1 ≤ k → nat_lt k (max end (i + u)) || covers (i + 1) us k ≡ nat_lt k end || ((leb i k && nat_lt k (i + u)) || covers (i + 1) us k) =
    λ k le. ap (λ (t : Bool). t || covers (i + 1) us k) (lt_max k end (i + u)) ∙ sym (or_assoc (nat_lt k end) (nat_lt k (i + u)) (covers (i + 1) us k))
    ∙ ap (λ (t : Bool). nat_lt k end || ((t && nat_lt k (i + u)) || covers (i + 1) us k)) (sym (le-leb i k (omega (arith, le)))) in
    ap (λ (b : Bool). cond b 1 0 + covered (i + 1) (max end (i + u)) us) here
    ∙ ap (λ (x : ℕ). cond (nat_lt i end || ((leb i i && nat_lt i (i + u)) || covers (i + 1) us i)) 1 0 + x)
    (covered_is (i + 1) (max end (i + u)) us ∙ count_same (i + 1) (length us) (λ k. nat_lt k (max end (i + u)) || covers (i + 1) us k) (λ k. nat_lt k end || ((leb i k && nat_lt k (i + u)) || covers (i + 1) us k)) later)

count_more : (i n : ℕ) (f : ℕ → Bool) → count_from i (suc n) f ≡ count_from i n f + cond (f (i + n)) 1 0
unfolding count_from
count_more i zero f = let same : i + 0 ≡ i = omega arith in let e : ◌≡◌ {A = ℕ} (cond (f (i + 0)) 1 0) (cond (f i) 1 0) = ap (λ (k : ℕ). cond {A = ℕ} (f k) 1 0) same in omega (arith, e)
count_more i (suc n) f =
    let more = count_more (i + 1) n f in
    let same : i + 1 + n ≡ i + suc n = omega arith in
    let e : ◌≡◌ {A = ℕ} (cond (f (i + 1 + n)) 1 0) (cond (f (i + suc n)) 1 0) = ap (λ (k : ℕ). cond {A = ℕ} (f k) 1 0) same in
    omega (arith, more, e)

count_is : (n : ℕ) (f : ℕ → Bool) → count_from 0 n f ≡ count_below f n
unfolding count_from count_below
count_is zero f = refl
count_is (suc n) f =
    let more = count_more 0 n f in
    let rest = count_is n f in
    let same : 0 + n ≡ n = omega arith in
    let e : ◌≡◌ {A = ℕ} (cond (f (0 + n)) 1 0) (cond (f n) 1 0) = ap (λ (k : ℕ). cond {A = ℕ} (f k) 1 0) same in
    omega (arith, more, rest, e)

-- ---- addresses and units

below_true : (f : ℕ → Bool) (n m : ℕ) → ((j : ℕ) → j < m → f (n + j) ≡ true) → count_below f (n + m) ≡ count_below f n + m
unfolding count_below
below_true f n zero h = let q : n + 0 ≡ n = omega arith in let e = ap (count_below f) q in omega (arith, e)
below_true f n (suc m) h =
    let q : n + suc m ≡ suc (n + m) = omega arith in
    let e : count_below f (n + suc m) ≡ cond (f (n + m)) 1 0 + count_below f (n + m) = ap (count_below f) q in
    let here : ◌≡◌ {A = ℕ} (cond (f (n + m)) 1 0) 1 = ap (λ (b : Bool). cond {A = ℕ} b 1 0) (h m (omega arith)) in
    let rest = below_true f n m (λ j lt. h j (omega (arith, lt))) in
    omega (arith, e, here, rest)

below_false : (f : ℕ → Bool) (n m : ℕ) → ((j : ℕ) → j < m → f (n + j) ≡ false) → count_below f (n + m) ≡ count_below f n
unfolding count_below
below_false f n zero h = let q : n + 0 ≡ n = omega arith in ap (count_below f) q
below_false f n (suc m) h =
    let q : n + suc m ≡ suc (n + m) = omega arith in
    let e : count_below f (n + suc m) ≡ cond (f (n + m)) 1 0 + count_below f (n + m) = ap (count_below f) q in
    let here : ◌≡◌ {A = ℕ} (cond (f (n + m)) 1 0) 0 = ap (λ (b : Bool). cond {A = ℕ} b 1 0) (h m (omega arith)) in
    let rest = below_false f n m (λ j lt. h j (omega (arith, lt))) in
    omega (arith, e, here, rest)

by_units : (f g : ℕ → Bool) (b n : ℕ) → ((k j : ℕ) → j < 16 → g k ≡ f (16 * (b + k) + j)) → count_below f (16 * (b + n)) ≡ count_below f (16 * b) + 16 * count_below g n
unfolding count_below
by_units f g b zero h = let q : 16 * (b + 0) ≡ 16 * b = omega arith in let e = ap (count_below f) q in omega (arith, e)
by_units f g b (suc n) h =
    let q : 16 * (b + suc n) ≡ 16 * (b + n) + 16 = omega arith in
    let e = ap (count_below f) q in
    let rest = by_units f g b n h in
    go (g n) refl e rest
  where
    go : (t : Bool) → g n ≡ t → count_below f (16 * (b + suc n)) ≡ count_below f (16 * (b + n) + 16) → count_below f (16 * (b + n)) ≡ count_below f (16 * b) + 16 * count_below g n → count_below f (16 * (b + suc n)) ≡ count_below f (16 * b) + 16 * (cond (g n) 1 0 + count_below g n)
    go true is e rest =
        let all = below_true f (16 * (b + n)) 16 (λ j lt. sym (h n j lt) ∙ is) in
        let one : ◌≡◌ {A = ℕ} (cond (g n) 1 0) 1 = ap (λ (x : Bool). cond {A = ℕ} x 1 0) is in
        omega (arith, e, rest, all, one)
    go false is e rest =
        let all = below_false f (16 * (b + n)) 16 (λ j lt. sym (h n j lt) ∙ is) in
        let one : ◌≡◌ {A = ℕ} (cond (g n) 1 0) 0 = ap (λ (x : Bool). cond {A = ℕ} x 1 0) is in
        omega (arith, e, rest, all, one)

and_false : (t : Bool) → t && false ≡ false
and_false true = refl
and_false false = refl

-- nothing outside of the range is granted
never : (first size a : ℕ) (done h : List HeapCall) → LegalFrom (region first size) done h → (a < first) ⊎ (first + size ≤ a) → ever_granted a h ≡ false
never first size a done [] l out = refl
never first size a done (e ∷ es) l out =
    ap (λ (t : Bool). t || ever_granted a es) (one e.what l.0) ∙ never first size a (done ++ e ∷ []) es l.1 out
  where
    one : (w : HeapEvent) → MayFollow (region first size) done w → grants_address a w ≡ false
    one (Grant n p) m =
        let above = m.0.above in
        let within = m.0.within in
        ⊎_elim
        (λ (x : a < first). ap (λ (t : Bool). t && nat_lt a (p + rounded n)) (lt-leb p a (omega (arith, x, above))))
        (λ (x : first + size ≤ a). ap (λ (t : Bool). leb p a && t) (le-ltb a (p + rounded n) (omega (arith, x, within))) ∙ and_false (leb p a))
        out
    one (Refuse n) m = refl
    one (Release p) m = refl

pub ever_is : (first size : ℕ) (h : List HeapCall) → size % 16 ≡ 0 → size ≤ 1048576 → Legal (region first size) h → 16 * covered 0 0 (table Ever first size h) ≡ granted_below (first + size) h
unfolding count_below
ever_is first size h multiple most legal =
    let us = table Ever first size h in
    let b = first / 16 in
    let n = unit_count size in
    let f : ℕ → Bool = λ a. ever_granted a h in
    let start : EverTable first size (replicate n 0) [] = record { long = long_table Ever first size []; at = λ k j lt. covers_zero 0 n k } in
    let t : EverTable first size us h = ever_from first size [] h (replicate n 0) multiple most legal start in
    let sweep : covered 0 0 us ≡ count_from 0 (length us) (λ k. nat_lt k 0 || covers 0 us k) = covered_is 0 0 us in
    let plain : count_from 0 (length us) (λ k. nat_lt k 0 || covers 0 us k) ≡ count_from 0 (length us) (covers 0 us) =
    count_same 0 (length us) (λ k. nat_lt k 0 || covers 0 us k) (covers 0 us) (λ k le. ap (λ (x : Bool). x || covers 0 us k) (le-ltb k 0 (omega arith))) in
    let units : count_from 0 (length us) (covers 0 us) ≡ count_below (covers 0 us) n = ap (λ (m : ℕ). count_from 0 m (covers 0 us)) t.long ∙ count_is n (covers 0 us) in
    let cut = by_units f (covers 0 us) b n t.at in
    let under : count_below f (0 + 16 * b) ≡ count_below f 0 = below_false f 0 (16 * b) (λ j lt. never first size (0 + j) [] h legal (inl (omega (arith, lt)))) in
    let above : count_below f (first + size + (16 * (b + n) - (first + size))) ≡ count_below f (first + size) = below_false f (first + size) (16 * (b + n) - (first + size)) (λ j lt. never first size (first + size + j) [] h legal (inr (omega arith))) in
    let end : first + size + (16 * (b + n) - (first + size)) ≡ 16 * (b + n) = omega (arith, multiple) in
    let low : 0 + 16 * b ≡ 16 * b = omega arith in
    let under' = ap (count_below f) low in
    let above' = ap (count_below f) end in
    omega (arith, sweep, plain, units, cut, under, above, under', above')
