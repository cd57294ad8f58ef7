-- The live storage of a range by unit.
use Rattle.std.proofs.Common.{suc, ◌≡◌, ⊎_elim, ℕ, ◌+◌, ◌*◌, ◌/◌, ◌%◌, ◌<◌, ◌≤◌, Bool, cond, List, [], ◌∷◌, ◌++◌, length, get_or, set, drop, replicate, Option, Some, None, refl, sym, ap, ◌∙◌, subst, arith}
use Rattle.std.specs.Prelude.{min, max, sum}
use Rattle.std.proofs.lemmas.Bool.{cases_eq, eq-eqb, ne_eqb}
use Rattle.std.proofs.lemmas.List.{append-nil, append_assoc, drop_all, get_or-set_same, get_or-set_other, length-set, length-replicate, get_or-replicate}
use Rattle.std.proofs.lemmas.List.Sums.{sum_by-cons, sum_by-set}
use Rattle.range_heap.specs.declared.call.HeapCall.{HeapCall}
use Rattle.range_heap.specs.declared.call.HeapEvent.{HeapEvent}
use Rattle.range_heap.specs.declared.call.HeapEvent.TheVariants.{Grant, Refuse, Release}
use Rattle.range_heap.specs.Blocks.{rounded, Block, block, without, blocks_after, live_blocks, size_in, IsClear}
use Rattle.range_heap.specs.History.{region, MayFollow, LegalFrom, Legal}
use Rattle.range_heap.proofs.Clear.{rounded_some, rounded_not_below, rounded_units, clear_of, size_without, some_of}
use Rattle.range_heap.proofs.Histories.{Good, blocks_from-snoc, legal-snoc, legal_good, within_at}
use Rattle.trace_replay.specs.Report.{block_bytes, live_bytes}
use Rattle.trace_replay.specs.Tables.{units_of, unit_at, unit_count, marked, marked_from, table}
use Rattle.trace_replay.specs.declared.tables.Kept.{Kept}
use Rattle.trace_replay.specs.declared.tables.Kept.TheVariants.{Live, Ever}

-- ---- units

pub unit_below : (first size p n : ℕ) → p % 16 ≡ 0 → first ≤ p → p + rounded n ≤ first + size → size % 16 ≡ 0 → unit_at first p < unit_count size
unit_below first size p n a b c d = let some = rounded_some n in omega (arith, a, b, c, d, some)

pub unit_place : (first p : ℕ) → p % 16 ≡ 0 → first ≤ p → 16 * (first / 16 + unit_at first p) ≡ p
unit_place first p a b = omega (arith, a, b)

pub units_are : (first size p n : ℕ) → first ≤ p → p + rounded n ≤ first + size → size ≤ 1048576 → units_of n ≡ rounded n / 16
units_are first size p n a b c =
    let above = rounded_not_below n in
    let q : min n 1048576 ≡ n = omega (arith, above, a, b, c) in
    ap (λ (x : ℕ). rounded x / 16) q

-- ---- tables keep their length

long_mark : (kept : Kept) (first : ℕ) (us : List ℕ) (w : HeapEvent) → length (marked kept first us w) ≡ length us
long_mark Live first us (Grant n p) = length-set us (unit_at first p) (units_of n)
long_mark Live first us (Refuse n) = refl
long_mark Live first us (Release p) = length-set us (unit_at first p) 0
long_mark Ever first us (Grant n p) = length-set us (unit_at first p) (max (get_or us (unit_at first p) 0) (units_of n))
long_mark Ever first us (Refuse n) = refl
long_mark Ever first us (Release p) = refl

long_from : (kept : Kept) (first : ℕ) (us : List ℕ) (h : List HeapCall) → length (marked_from kept first us h) ≡ length us
long_from kept first us [] = refl
long_from kept first us (e ∷ es) = long_from kept first (marked kept first us e.what) es ∙ long_mark kept first us e.what

pub long_table : (kept : Kept) (first size : ℕ) (h : List HeapCall) → length (table kept first size h) ≡ unit_count size
long_table kept first size h = long_from kept first (replicate (unit_count size) 0) h ∙ length-replicate (unit_count size) 0

pub few_units : (kept : Kept) (first size : ℕ) (h : List HeapCall) → size ≤ 1048576 → length (table kept first size h) ≤ 65537
few_units kept first size h most = let long = long_table kept first size h in omega (arith, long, most)

-- ---- the table of live blocks

abbrev part : Option ℕ → ℕ
part None = 0
part (Some n) = rounded n / 16

record LiveTable (first size : ℕ) (us : List ℕ) (bs : List Block) : Type 0 where
  long : length us ≡ unit_count size
  at : (k : ℕ) → k < unit_count size → get_or us k 0 ≡ part (size_in (16 * (first / 16 + k)) bs)

live_none : (first size : ℕ) → LiveTable first size (replicate (unit_count size) 0) []
live_none first size = record {
  long = length-replicate (unit_count size) 0;
  at = λ k lt. get_or-replicate (unit_count size) k 0 0 lt;
}

grant_step : (first size n p : ℕ) (us : List ℕ) (bs : List Block) → size % 16 ≡ 0 → size ≤ 1048576 → p % 16 ≡ 0 → first ≤ p → p + rounded n ≤ first + size → LiveTable first size us bs → LiveTable first size (set us (unit_at first p) (units_of n)) (block p n ∷ bs)
grant_step first size n p us bs multiple most aligned above within h =
    let u = unit_at first p in
    let below = unit_below first size p n aligned above within multiple in
    let place = unit_place first p aligned above in
    let long = h.long in
    record {
      long = length-set us u (units_of n) ∙ h.long;
      at = λ k lt. ⊎_elim
          (λ (q : u ≡ k).
          let here : p ≡ 16 * (first / 16 + k) = sym place ∙ ap (λ (x : ℕ). 16 * (first / 16 + x)) q in
          ap (λ (x : ℕ). get_or (set us u (units_of n)) x 0) (sym q) ∙ get_or-set_same us u (units_of n) 0 (omega (arith, below, long)) ∙ units_are first size p n above within most
          ∙ ap (λ (b : Bool). part (cond b (Some n) (size_in (16 * (first / 16 + k)) bs))) (sym (eq-eqb p (16 * (first / 16 + k)) here)))
          (λ (ne : u ≡ k → ⊥).
          get_or-set_other us u k (units_of n) 0 (λ q. ne (sym q)) ∙ h.at k lt
          ∙ ap (λ (b : Bool). part (cond b (Some n) (size_in (16 * (first / 16 + k)) bs))) (sym (ne_eqb p (16 * (first / 16 + k)) (λ q. ne (omega (arith, place, q))))))
          (cases_eq u k);
    }

release_step : (first size n p : ℕ) (us : List ℕ) (bs : List Block) → size % 16 ≡ 0 → p % 16 ≡ 0 → first ≤ p → p + rounded n ≤ first + size → LiveTable first size us bs → LiveTable first size (set us (unit_at first p) 0) (without p bs)
release_step first size n p us bs multiple aligned above within h =
    let u = unit_at first p in
    let below = unit_below first size p n aligned above within multiple in
    let place = unit_place first p aligned above in
    let long = h.long in
    record {
      long = length-set us u 0 ∙ h.long;
      at = λ k lt. ⊎_elim
          (λ (q : u ≡ k).
          let here : p ≡ 16 * (first / 16 + k) = sym place ∙ ap (λ (x : ℕ). 16 * (first / 16 + x)) q in
          ap (λ (x : ℕ). get_or (set us u 0) x 0) (sym q) ∙ get_or-set_same us u 0 0 (omega (arith, below, long))
          ∙ ap (λ (b : Bool). part (cond b None (size_in (16 * (first / 16 + k)) bs))) (sym (eq-eqb p (16 * (first / 16 + k)) here)) ∙ ap part (sym (size_without bs p (16 * (first / 16 + k)))))
          (λ (ne : u ≡ k → ⊥).
          get_or-set_other us u k 0 0 (λ q. ne (sym q)) ∙ h.at k lt
          ∙ ap (λ (b : Bool). part (cond b None (size_in (16 * (first / 16 + k)) bs))) (sym (ne_eqb p (16 * (first / 16 + k)) (λ q. ne (omega (arith, place, q))))) ∙ ap part (sym (size_without bs p (16 * (first / 16 + k)))))
          (cases_eq u k);
    }

live_step : (first size : ℕ) (done : List HeapCall) (us : List ℕ) (w : HeapEvent) → size % 16 ≡ 0 → size ≤ 1048576 → Legal (region first size) done → MayFollow (region first size) done w → LiveTable first size us (live_blocks done) → LiveTable first size (marked Live first us w) (blocks_after (live_blocks done) w)
live_step first size done us (Grant n p) multiple most legal m h = grant_step first size n p us (live_blocks done) multiple most m.0.multiple m.0.above m.0.within h
live_step first size done us (Refuse n) multiple most legal m h = h
live_step first size done us (Release p) multiple most legal m h =
    let s = some_of (size_in p (live_blocks done)) m in
    let w = within_at (region first size) (live_blocks done) p s.0 (legal_good (region first size) done legal).0 s.1 in
    release_step first size s.0 p us (live_blocks done) multiple w.0 w.1 w.2 h

live_from : (first size : ℕ) (done h : List HeapCall) (us : List ℕ) → size % 16 ≡ 0 → size ≤ 1048576 → Legal (region first size) done → LegalFrom (region first size) done h → LiveTable first size us (live_blocks done) → LiveTable first size (marked_from Live first us h) (live_blocks (done ++ h))
live_from first size done [] us multiple most legal l t = subst (λ (d : List HeapCall). LiveTable first size us (live_blocks d)) (sym (append-nil done)) t
live_from first size done (e ∷ es) us multiple most legal l t =
    subst (λ (d : List HeapCall). LiveTable first size (marked_from Live first (marked Live first us e.what) es) (live_blocks d)) (append_assoc done (e ∷ []) es)
    (live_from first size (done ++ e ∷ []) es (marked Live first us e.what) multiple most (legal-snoc (region first size) done e legal l.0) l.1
    (subst (λ (bs : List Block). LiveTable first size (marked Live first us e.what) bs) (sym (blocks_from-snoc [] done e)) (live_step first size done us e.what multiple most legal l.0 t)))

-- ---- its sum

sum_zero : (us : List ℕ) → ((k : ℕ) → k < length us → get_or us k 0 ≡ 0) → sum us ≡ 0
sum_zero [] z = refl
sum_zero (x ∷ xs) z =
    let head : x ≡ 0 = z 0 (omega arith) in
    let rest = sum_zero xs (λ k lt. z (suc k) (omega (arith, lt))) in
    let whole : sum (x ∷ xs) ≡ x + sum xs = sum_by-cons (λ (n : ℕ). n) x xs in
    omega (arith, head, rest, whole)

sum_set : (us : List ℕ) (u : ℕ) → u < length us → sum us ≡ sum (set us u 0) + get_or us u 0
sum_set us u lt = let e : sum (set us u 0) + get_or us u 0 ≡ sum us + 0 = sum_by-set (λ (n : ℕ). n) us u 0 0 lt in omega (arith, e)

clear_none : (bs : List Block) (p n : ℕ) → 0 < n → IsClear bs p n → size_in p bs ≡ None
clear_none bs p n pos c = go (size_in p bs) refl
  where
    go : (o : Option ℕ) → size_in p bs ≡ o → size_in p bs ≡ None
    go None e = e
    go (Some s) e = let some = rounded_some s in absurd (⊎_elim {C = ⊥} (λ (x : p + n ≤ p). omega (arith, x, pos)) (λ (x : p + rounded s ≤ p). omega (arith, x, some)) (clear_of bs p n p s c e))

sum_live : (first size : ℕ) (bs : List Block) (us : List ℕ) → size % 16 ≡ 0 → Good (region first size) bs → LiveTable first size us bs → 16 * sum us ≡ block_bytes bs
sum_live first size [] us multiple g h =
    let long = h.long in
    let none = sum_zero us (λ k lt. h.at k (omega (arith, lt, long))) in
    omega (arith, none)
sum_live first size (b ∷ bs) us multiple g h =
    let p = b.place in
    let n = b.size in
    let aligned = g.0.0.0 in
    let above = g.0.0.1 in
    let within = g.0.0.2 in
    let u = unit_at first p in
    let below = unit_below first size p n aligned above within multiple in
    let place = unit_place first p aligned above in
    let long = h.long in
    let some = rounded_some n in
    let none : size_in p bs ≡ None = clear_none bs p (rounded n) (omega (arith, some)) g.1.0 in
    let rest : LiveTable first size (set us u 0) bs = record {
      long = length-set us u 0 ∙ h.long;
      at = λ k lt. ⊎_elim
          (λ (q : u ≡ k).
          let here : p ≡ 16 * (first / 16 + k) = sym place ∙ ap (λ (x : ℕ). 16 * (first / 16 + x)) q in
          ap (λ (x : ℕ). get_or (set us u 0) x 0) (sym q) ∙ get_or-set_same us u 0 0 (omega (arith, below, long)) ∙ ap part (sym none) ∙ ap (λ (x : ℕ). part (size_in x bs)) here)
          (λ (ne : u ≡ k → ⊥).
          get_or-set_other us u k 0 0 (λ q. ne (sym q)) ∙ h.at k lt
          ∙ ap (λ (t : Bool). part (cond t (Some n) (size_in (16 * (first / 16 + k)) bs))) (ne_eqb p (16 * (first / 16 + k)) (λ q. ne (omega (arith, place, q)))))
          (cases_eq u k);
    } in
    let own : get_or us u 0 ≡ rounded n / 16 =
    h.at u below ∙ ap (λ (t : Bool). part (cond t (Some n) (size_in (16 * (first / 16 + u)) bs))) (eq-eqb p (16 * (first / 16 + u)) (sym place)) in
    let split = sum_set us u (omega (arith, below, long)) in
    let more = sum_live first size bs (set us u 0) multiple (g.0.1, g.1.1) rest in
    let whole = rounded_units n in
    omega (arith, own, split, more, whole)

pub live_is : (first size : ℕ) (h : List HeapCall) → size % 16 ≡ 0 → size ≤ 1048576 → Legal (region first size) h → 16 * sum (table Live first size h) ≡ live_bytes h
live_is first size h multiple most legal =
    sum_live first size (live_blocks h) (table Live first size h) multiple (legal_good (region first size) h legal)
    (live_from first size [] h (replicate (unit_count size) 0) multiple most tt legal (live_none first size))

-- what the loop over a history leaves at its end
pub table_ended : (kept : Kept) (first size i : ℕ) (us : List ℕ) (h : List HeapCall) → length h ≤ i → marked_from kept first us (drop i h) ≡ table kept first size h → us ≡ table kept first size h
table_ended kept first size i us h le e = sym (ap (λ (l : List HeapCall). marked_from kept first us l) (drop_all i h le)) ∙ e
