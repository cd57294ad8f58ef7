-- Each live allocated block was granted at a place that is live in the log, and no two at the same place.
use Rattle.std.proofs.Common.{◌≡◌, ⊎_elim, ℕ, zero, suc, ◌+◌, ◌<◌, Bool, true, false, cond, List, [], ◌∷◌, ◌++◌, length, Option, Some, None, refl, sym, ap, subst, ◌∙◌, arith, append-nil}
use Rattle.std.specs.Prelude.{slice_get, slice_index_or, nat_eq}
use Rattle.std.proofs.lemmas.Bool.Decides.{eqb_tells}
use Rattle.range_heap.specs.declared.call.HeapCall.{HeapCall}
use Rattle.range_heap.specs.declared.call.HeapEvent.{HeapEvent}
use Rattle.range_heap.specs.declared.call.HeapEvent.TheVariants as event
use Rattle.range_heap.specs.Blocks.{live, rounded}
use Rattle.range_heap.specs.History.{Region, FitsAt, call_of}
use Rattle.range_heap.proofs.Histories.{live_after, live-snoc, clear_not_live}
use Rattle.c_meaning.specs.declared.log.LogEntry.{LogEntry}
use Rattle.c_meaning.specs.declared.log.LogEntry.TheVariants.{Grant, Refuse, Release}
use Rattle.c_meaning.specs.World.{World, maker, heaps_before, without_block, after_answer}
use Rattle.c_meaning.specs.Log.{by_token, WasGranted}
use Rattle.meaning_laws.proofs.Goes.{event_if, event_of, token_in, by_token-snoc}
use Rattle.meaning_laws.proofs.Tame.{Heap, heaps, Tame, tame_killed, not_killed, heaps_more, more_at, before_below}

-- the entry with this number granted a place that is live
abbrev pub LiveGrant : List LogEntry → ℕ → Type 0
LiveGrant log j = (t : ℕ) × (p : ℕ) × WasGranted (slice_get log j) t p × (live p (by_token log t) ≡ true)

pub record Held (w : World) (log : List LogEntry) : Type 0 where
  pub asked : w.asked ≡ length log
  pub count : length w.grants ≡ heaps w.blocks
  pub held : (n : ℕ) → Heap w.blocks n → LiveGrant log (maker w n)
  pub apart : (n m t p : ℕ) → (n ≡ m → ⊥) → Heap w.blocks n → Heap w.blocks m → WasGranted (slice_get log (maker w n)) t p → WasGranted (slice_get log (maker w m)) t p → ⊥

same_maker : (w v : World) (n : ℕ) → v.grants ≡ w.grants → heaps_before n v.blocks ≡ heaps_before n w.blocks → maker w n ≡ maker v n
same_maker w v n e h = ap (λ k. slice_index_or w.grants k 0) (sym h) ∙ ap (λ g. slice_index_or g (heaps_before n v.blocks) 0) (sym e)

-- a quiet step
pub held_as : (w v : World) (log : List LogEntry) → v.asked ≡ w.asked → v.grants ≡ w.grants → Tame w.blocks v.blocks → Held w log → Held v log
held_as w v log a g x h = record {
  asked = a ∙ h.asked;
  count = ap length g ∙ h.count ∙ sym x.count;
  held = λ n i. let o = x.held n i in subst (LiveGrant log) (same_maker w v n g o.1) (h.held n o.0);
  apart = λ n m t p ne i j e f.
      let o = x.held n i in
      let q = x.held m j in
      h.apart n m t p ne o.0 q.0 (subst (λ k. WasGranted (slice_get log k) t p) (sym (same_maker w v n g o.1)) e) (subst (λ k. WasGranted (slice_get log k) t p) (sym (same_maker w v m g q.1)) f);
}

-- ---- one entry more

granted_some : (o : Option LogEntry) (t p : ℕ) → WasGranted o t p → (x : LogEntry) × (o ≡ Some x)
granted_some (Some x) t p h = (x, refl)
granted_some None t p h = absurd h

get_more : (log : List LogEntry) (x y : LogEntry) (j : ℕ) → slice_get log j ≡ Some y → slice_get (log ++ x ∷ []) j ≡ Some y
get_more [] x y j e = absurd (let f : None ≡ Some y = e in cc)
get_more (z ∷ log) x y zero e = e
get_more (z ∷ log) x y (suc j) e = get_more log x y j e

still_granted : (log : List LogEntry) (x : LogEntry) (j t p : ℕ) → WasGranted (slice_get log j) t p → WasGranted (slice_get (log ++ x ∷ []) j) t p
still_granted log x j t p h =
    let s = granted_some (slice_get log j) t p h in
    subst (λ o. WasGranted o t p) (s.1 ∙ sym (get_more log x s.0 j s.1)) h

get_last : (log : List LogEntry) (x : LogEntry) → slice_get (log ++ x ∷ []) (length log) ≡ Some x
get_last [] x = refl
get_last (y ∷ log) x = get_last log x

-- a grant that both logs have is one
was_granted : (log : List LogEntry) (x : LogEntry) (j t p : ℕ) → LiveGrant log j → WasGranted (slice_get (log ++ x ∷ []) j) t p → WasGranted (slice_get log j) t p
was_granted log x j t p g h =
    let s = granted_some (slice_get log j) g.0 g.1 g.2 in
    subst (λ o. WasGranted o t p) (get_more log x s.0 j s.1 ∙ sym s.1) h

pub one_grant : (o : Option LogEntry) (t p u q : ℕ) → WasGranted o t p → WasGranted o u q → (t ≡ u) × (p ≡ q)
one_grant (Some (Grant t z p)) t1 p1 t2 p2 a b = (sym a.0 ∙ b.0, sym a.1 ∙ b.1)
one_grant (Some (Refuse t z)) t1 p1 t2 p2 a b = absurd a
one_grant (Some (Release t p)) t1 p1 t2 p2 a b = absurd a
one_grant None t1 p1 t2 p2 a b = absurd a

-- an entry that doesn't release the place
abbrev Spares : LogEntry → ℕ → ℕ → Type 0
Spares (Grant t z p) u q = Unit {0}
Spares (Refuse t z) u q = Unit {0}
Spares (Release t p) u q = t ≡ u → p ≡ q → ⊥

live_event : (h : List HeapCall) (e : HeapEvent) (p : ℕ) (b : Bool) → live p h ≡ true → (b ≡ true → live_after p true e ≡ true) → live p (h ++ event_if e b) ≡ true
live_event h e p true l k = live-snoc p h (call_of 0 e) ∙ ap (λ b. live_after p b e) l ∙ k refl
live_event h e p false l k = ap (live p) (append-nil h) ∙ l

cond_true : (b : Bool) → cond b true true ≡ true
cond_true true = refl
cond_true false = refl

spared : (x : LogEntry) (t p : ℕ) → Spares x t p → nat_eq (token_in x) t ≡ true → live_after p true (event_of x) ≡ true
spared (Grant u z q) t p s e = cond_true (nat_eq q p)
spared (Refuse u z) t p s e = refl
spared (Release u q) t p s e =
    ⊎_elim
    (λ (same : (nat_eq u t ≡ true) × (u ≡ t)).
    ⊎_elim (λ (x : (nat_eq q p ≡ true) × (q ≡ p)). absurd (s same.1 x.1)) (λ (x : (nat_eq q p ≡ false) × (q ≡ p → ⊥)). ap (λ b. cond b false true) x.0) (eqb_tells q p))
    (λ (other : (nat_eq u t ≡ false) × (u ≡ t → ⊥)). absurd (let f : false ≡ true = sym other.0 ∙ e in cc))
    (eqb_tells u t)

pub still_live : (log : List LogEntry) (x : LogEntry) (t p : ℕ) → Spares x t p → live p (by_token log t) ≡ true → live p (by_token (log ++ x ∷ []) t) ≡ true
still_live log x t p s l =
    ap (live p) (by_token-snoc log x t)
    ∙ live_event (by_token log t) (event_of x) p (nat_eq (token_in x) t) l (spared x t p s)

length_more : (log : List LogEntry) (x : LogEntry) → suc (length log) ≡ length (log ++ x ∷ [])
length_more [] x = refl
length_more (y ∷ log) x = ap suc (length_more log x)

numbers_more : (ns : List ℕ) (n : ℕ) → length (ns ++ n ∷ []) ≡ length ns + 1
numbers_more [] n = refl
numbers_more (m ∷ ns) n = let e = numbers_more ns n in omega (arith, e)

-- ---- a refusal

pub held_refused : (w : World) (size t : ℕ) (log : List LogEntry) → Held w log → Held (after_answer size false w) (log ++ Refuse t size ∷ [])
held_refused w size t log h = record {
  asked = ap suc h.asked ∙ length_more log (Refuse t size);
  count = h.count;
  held = λ n i. let g = h.held n i in (g.0, g.1, still_granted log (Refuse t size) (maker w n) g.0 g.1 g.2, still_live log (Refuse t size) g.0 g.1 tt g.3);
  apart = λ n m u p ne i j e f. h.apart n m u p ne i j (was_granted log (Refuse t size) (maker w n) u p (h.held n i) e) (was_granted log (Refuse t size) (maker w m) u p (h.held m j) f);
}

-- ---- a release

pub held_released : (w : World) (n t p : ℕ) (log : List LogEntry) → Held w log → Heap w.blocks n → WasGranted (slice_get log (maker w n)) t p
    → Held (record (without_block n w) { asked = suc w.asked }) (log ++ Release t p ∷ [])
held_released w n t p log h heap was =
    let x = tame_killed w.blocks n in
    let v = record (without_block n w) { asked = suc w.asked } in
    let other = λ (m : ℕ) (i : Heap v.blocks m). (λ (e : n ≡ m). not_killed w.blocks n (subst (λ k. Heap v.blocks k) (sym e) i)) in
    record {
      asked = ap suc h.asked ∙ length_more log (Release t p);
      count = h.count ∙ sym x.count;
      held = λ m i.
          let o = x.held m i in
          let g = h.held m o.0 in
          subst (LiveGrant (log ++ Release t p ∷ [])) (same_maker w v m refl o.1) (
            g.0,
            g.1,
            still_granted log (Release t p) (maker w m) g.0 g.1 g.2,
            still_live log (Release t p) g.0 g.1 (λ et ep. h.apart n m g.0 g.1 (other m i) heap o.0 (subst (λ u. WasGranted (slice_get log (maker w n)) u g.1) et (subst (λ q. WasGranted (slice_get log (maker w n)) t q) ep was)) g.2) g.3,
          );
      apart = λ m k u q ne i j e f.
          let o = x.held m i in
          let r = x.held k j in
          h.apart m k u q ne o.0 r.0
          (was_granted log (Release t p) (maker w m) u q (h.held m o.0) (subst (λ y. WasGranted (slice_get (log ++ Release t p ∷ []) y) u q) (sym (same_maker w v m refl o.1)) e))
          (was_granted log (Release t p) (maker w k) u q (h.held k r.0) (subst (λ y. WasGranted (slice_get (log ++ Release t p ∷ []) y) u q) (sym (same_maker w v k refl r.1)) f));
    }

-- ---- a grant

at_less : (ns : List ℕ) (n k : ℕ) → k < length ns → slice_index_or (ns ++ n ∷ []) k 0 ≡ slice_index_or ns k 0
at_less [] n k h = absurd (omega arith)
at_less (m ∷ ns) n zero h = refl
at_less (m ∷ ns) n (suc k) h = at_less ns n k (omega arith)

at_last : (ns : List ℕ) (n k : ℕ) → k ≡ length ns → slice_index_or (ns ++ n ∷ []) k 0 ≡ n
at_last [] n k h = ap (λ i. slice_index_or (n ∷ []) i 0) h
at_last (m ∷ ns) n zero h = absurd (omega (arith, h))
at_last (m ∷ ns) n (suc k) h = at_last ns n k (omega (arith, h))

module _ (w : World) (size t p : ℕ) (log : List LogEntry) (h : Held w log) (r : Region) (fits : FitsAt r (by_token log t) size 16 p) where
  abbrev v : World
  v = after_answer size true w

  abbrev x : LogEntry
  x = Grant t size p

  -- a block that was there has the maker that it had
  old_maker : (n : ℕ) → Heap w.blocks n → heaps_before n v.blocks ≡ heaps_before n w.blocks → maker w n ≡ maker v n
  old_maker n i e =
      sym (at_less w.grants w.asked (heaps_before n w.blocks) (let c = h.count in let l = before_below w.blocks n i in omega (arith, c, l)))
      ∙ ap (λ k. slice_index_or (w.grants ++ w.asked ∷ []) k 0) (sym e)

  new_maker : (n : ℕ) → heaps_before n v.blocks ≡ heaps w.blocks → maker v n ≡ length log
  new_maker n e = at_last w.grants w.asked (heaps_before n v.blocks) (e ∙ sym h.count) ∙ h.asked

  live_now : live p (by_token (log ++ x ∷ []) t) ≡ true
  live_now =
      ap (live p) (by_token-snoc log x t)
      ∙ now (nat_eq t t) (⊎_elim (λ (y : (nat_eq t t ≡ true) × (t ≡ t)). y.0) (λ (y : (nat_eq t t ≡ false) × (t ≡ t → ⊥)). absurd (y.1 refl)) (eqb_tells t t))
    where
      there : nat_eq p p ≡ true
      there = ⊎_elim (λ (y : (nat_eq p p ≡ true) × (p ≡ p)). y.0) (λ (y : (nat_eq p p ≡ false) × (p ≡ p → ⊥)). absurd (y.1 refl)) (eqb_tells p p)

      now : (b : Bool) → b ≡ true → live p (by_token log t ++ event_if (event.Grant size p) b) ≡ true
      now true e = live-snoc p (by_token log t) (call_of 0 (event.Grant size p)) ∙ ap (λ b. cond b true (live p (by_token log t))) there
      now false e = absurd (let f : false ≡ true = e in cc)

  not_live : live p (by_token log t) ≡ true → ⊥
  not_live l = let f : false ≡ true = sym (clear_not_live (by_token log t) p (rounded size) (omega arith) fits.clear) ∙ l in cc

  held_new : (n : ℕ) → Heap v.blocks n → LiveGrant (log ++ x ∷ []) (maker v n)
  held_new n i = ⊎_elim
      (λ o. let g = h.held n o.0 in
      subst (LiveGrant (log ++ x ∷ [])) (old_maker n o.0 o.1) (g.0, g.1, still_granted log x (maker w n) g.0 g.1 g.2, still_live log x g.0 g.1 tt g.3))
      (λ o. subst (LiveGrant (log ++ x ∷ [])) (sym (new_maker n o.2)) (t, p, subst (λ y. WasGranted y t p) (sym (get_last log x)) (refl, refl), live_now))
      (more_at w.blocks _ n i)

  -- what an old block was granted is not what the new one was
  old_new : (n m u q : ℕ) → Heap w.blocks n → heaps_before n v.blocks ≡ heaps_before n w.blocks → heaps_before m v.blocks ≡ heaps w.blocks
      → WasGranted (slice_get (log ++ x ∷ []) (maker v n)) u q → WasGranted (slice_get (log ++ x ∷ []) (maker v m)) u q → ⊥
  old_new n m u q i e e' a b =
      let g = h.held n i in
      let here = was_granted log x (maker w n) u q g (subst (λ k. WasGranted (slice_get (log ++ x ∷ []) k) u q) (sym (old_maker n i e)) a) in
      let one = one_grant (slice_get log (maker w n)) g.0 g.1 u q g.2 here in
      let new : WasGranted (Some x) u q = subst (λ o. WasGranted o u q) (ap (slice_get (log ++ x ∷ [])) (new_maker m e') ∙ get_last log x) b in
      not_live (subst (λ k. live k (by_token log t) ≡ true) (one.1 ∙ sym new.1) (subst (λ k. live g.1 (by_token log k) ≡ true) (one.0 ∙ sym new.0) g.3))

  apart_new : (n m u q : ℕ) → (n ≡ m → ⊥) → Heap v.blocks n → Heap v.blocks m → WasGranted (slice_get (log ++ x ∷ []) (maker v n)) u q → WasGranted (slice_get (log ++ x ∷ []) (maker v m)) u q → ⊥
  apart_new n m u q ne i j a b = ⊎_elim
      (λ o. ⊎_elim
      (λ o'. h.apart n m u q ne o.0 o'.0
      (was_granted log x (maker w n) u q (h.held n o.0) (subst (λ k. WasGranted (slice_get (log ++ x ∷ []) k) u q) (sym (old_maker n o.0 o.1)) a))
      (was_granted log x (maker w m) u q (h.held m o'.0) (subst (λ k. WasGranted (slice_get (log ++ x ∷ []) k) u q) (sym (old_maker m o'.0 o'.1)) b)))
      (λ o'. old_new n m u q o.0 o.1 o'.2 a b)
      (more_at w.blocks _ m j))
      (λ o. ⊎_elim
      (λ o'. old_new m n u q o'.0 o'.1 o.2 b a)
      (λ o'. ne (o.0 ∙ sym o'.0))
      (more_at w.blocks _ m j))
      (more_at w.blocks _ n i)

  pub held_granted : Held (after_answer size true w) (log ++ Grant t size p ∷ [])
  held_granted = record {
    asked = ap suc h.asked ∙ length_more log x;
    count = let a = numbers_more w.grants w.asked in let b = heaps_more w.blocks _ in let c = h.count in a ∙ ap (λ k. k + 1) c ∙ sym b;
    held = held_new;
    apart = apart_new;
  }
