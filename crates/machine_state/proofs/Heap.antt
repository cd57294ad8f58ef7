-- The heap is asked, and answers; an allocated block is given back.
use Rattle.std.proofs.Common.{◌≡◌, ◌⊎◌, ⊎_elim, inl, inr, ℕ, zero, suc, ◌+◌, ◌*◌, ◌<◌, ◌≤◌, ◌^◌, Bool, true, false, cond, nat_eq, List, [], ◌∷◌, ◌++◌, length, get_or, set, map, Option, Some, None, refl, sym, ap, subst, ◌∙◌, arith, append-nil, get_or-set_same, get_or-set_other}
use Rattle.std.specs.Prelude.{slice_get, slice_index_or, if◌then◌else◌, is_some}
use Rattle.std.proofs.lemmas.Bool.{cases_lt}
use Rattle.std.proofs.lemmas.Bool.Decides.{eqb_tells}
use Rattle.std.proofs.lemmas.List.{length-map}
use Rattle.std.proofs.lemmas.Nat.{row_fits}
use Rattle.c_core.specs.declared.values.BlockKind.{BlockKind}
use Rattle.c_core.specs.declared.values.BlockKind.TheVariants as kind
use Rattle.c_meaning.specs.declared.log.LogEntry.{LogEntry}
use Rattle.c_meaning.specs.declared.log.LogEntry.TheVariants.{Grant, Refuse, Release}
use Rattle.c_meaning.specs.Log.{by_token, WasGranted}
use Rattle.c_meaning.specs.World.{is_heap}
use Rattle.range_heap.specs.declared.call.HeapCall.{HeapCall}
use Rattle.range_heap.specs.declared.call.HeapEvent.{HeapEvent}
use Rattle.range_heap.specs.declared.call.HeapEvent.TheVariants as event
use Rattle.range_heap.specs.Blocks.{rounded, live_blocks, live_at, live, size_in}
use Rattle.range_heap.specs.History.{call_of, FitsAt}
use Rattle.range_heap.specs.Ranges.{range_at, AllLegal}
use Rattle.range_heap.specs.Seen.{AllHeaps}
use Rattle.range_heap.specs.Steps.{histories, noted}
use Rattle.range_heap.proofs.Clear.{size_without, rounded_some}
use Rattle.range_heap.proofs.Histories.{blocks_from-snoc, clear_not_live}
use Rattle.block_memory.specs.Rooms.{room}
use Rattle.meaning_laws.proofs.Goes.{event_if, event_of, token_in, by_token-snoc}
use Rattle.machine_frames.specs.Views.{grants_from}
use Rattle.machine_state.specs.declared.ledger.Spot.{Spot}
use Rattle.machine_state.specs.Stands.{Stand, ended_at, heaps_at, maker_at, Under, AreLow, Held, Placed, Stands}
use Rattle.machine_state.proofs.Lists.{some_is, length_more, get_less, get_last, get_more, get_within, at_less, at_last, still_granted, grants_granted, grants_refused, grants_released, heaps_less, heaps_more, heaps_below, heaps_ended, length_ended, ended_alive, ended_size}
use Rattle.machine_state.proofs.Free.{held_within}
use Rattle.machine_state.proofs.Objects.{low_more}

-- what a call of the heap for a token changes: its range's history has one event more, or there is no such range
pub record Noted (old new : AllHeaps) (t : ℕ) (e : HeapEvent) : Type 0 where
  pub size : new.size ≡ old.size
  pub count : length new.heaps ≡ length old.heaps
  pub inside : t < length old.heaps → histories new ≡ noted (histories old) t (call_of 0 e)
  pub outside : length old.heaps ≤ t → histories new ≡ histories old
  pub legal : AllLegal new.size (histories new)

histories_long : (all : AllHeaps) → length (histories all) ≡ length all.heaps
histories_long all = length-map all.heaps (λ k. k.history)

-- an event at another place
abbrev pub Spares : HeapEvent → ℕ → Type 0
Spares (event.Grant size q) p = q ≡ p → ⊥
Spares (event.Refuse size) p = Unit {0}
Spares (event.Release q) p = q ≡ p → ⊥

spared : (h : List HeapCall) (e : HeapEvent) (p s : ℕ) → Spares e p → live_at p h ≡ Some s → live_at p (h ++ call_of 0 e ∷ []) ≡ Some s
spared h (event.Grant size q) p s ne l =
    ap (size_in p) (blocks_from-snoc [] h (call_of 0 (event.Grant size q)))
    ∙ ⊎_elim {C = cond (nat_eq q p) (Some size) (size_in p (live_blocks h)) ≡ Some s}
    (λ (y : (nat_eq q p ≡ true) × (q ≡ p)). absurd (ne y.1))
    (λ (y : (nat_eq q p ≡ false) × (q ≡ p → ⊥)). ap (λ b. cond b (Some size) (size_in p (live_blocks h))) y.0 ∙ l)
    (eqb_tells q p)
spared h (event.Refuse size) p s ne l = ap (size_in p) (blocks_from-snoc [] h (call_of 0 (event.Refuse size))) ∙ l
spared h (event.Release q) p s ne l =
    ap (size_in p) (blocks_from-snoc [] h (call_of 0 (event.Release q)))
    ∙ size_without (live_blocks h) q p
    ∙ ⊎_elim {C = cond (nat_eq q p) None (size_in p (live_blocks h)) ≡ Some s}
    (λ (y : (nat_eq q p ≡ true) × (q ≡ p)). absurd (ne y.1))
    (λ (y : (nat_eq q p ≡ false) × (q ≡ p → ⊥)). ap (λ b. cond b None (size_in p (live_blocks h))) y.0 ∙ l)
    (eqb_tells q p)

-- a place that was granted is live
granted_live : (h : List HeapCall) (size p : ℕ) → live_at p (h ++ call_of 0 (event.Grant size p) ∷ []) ≡ Some size
granted_live h size p =
    ap (size_in p) (blocks_from-snoc [] h (call_of 0 (event.Grant size p)))
    ∙ ap (λ b. cond b (Some size) (size_in p (live_blocks h))) (⊎_elim {C = nat_eq p p ≡ true} (λ (y : (nat_eq p p ≡ true) × (p ≡ p)). y.0) (λ (y : (nat_eq p p ≡ false) × (p ≡ p → ⊥)). absurd (y.1 refl)) (eqb_tells p p))

-- the histories behind one event more are those that the log with its entry tells
module _ (old new : AllHeaps) (x : LogEntry) (N : Noted old new (token_in x) (event_of x)) where
  abbrev hs : List (List HeapCall)
  hs = histories old

  -- the history of the token itself
  pub noted_same : token_in x < length old.heaps → slice_index_or (histories new) (token_in x) [] ≡ slice_index_or hs (token_in x) [] ++ call_of 0 (event_of x) ∷ []
  noted_same lt =
      ap (λ l. slice_index_or l (token_in x) []) (N.inside lt)
      ∙ get_or-set_same hs (token_in x) (slice_index_or hs (token_in x) [] ++ call_of 0 (event_of x) ∷ []) [] (let l = histories_long old in omega (arith, lt, l))

  -- and of every other one
  pub noted_other : (u : ℕ) → (u ≡ token_in x → ⊥) → slice_index_or (histories new) u [] ≡ slice_index_or hs u []
  noted_other u ne = ⊎_elim {C = slice_index_or (histories new) u [] ≡ slice_index_or hs u []}
      (λ (lt : token_in x < length old.heaps).
      ap (λ l. slice_index_or l u []) (N.inside lt) ∙ get_or-set_other hs (token_in x) u (slice_index_or hs (token_in x) [] ++ call_of 0 (event_of x) ∷ []) [] ne)
      (λ (le : length old.heaps ≤ token_in x). ap (λ l. slice_index_or l u []) (N.outside le))
      (cases_lt (token_in x) (length old.heaps))

  -- the log is still the histories
  pub noted_log : (log : List LogEntry) → ((t : ℕ) → t < length old.heaps → by_token log t ≡ slice_index_or hs t [])
      → (t : ℕ) → t < length new.heaps → by_token (log ++ x ∷ []) t ≡ slice_index_or (histories new) t []
  noted_log log is t lt =
      let within : t < length old.heaps = omega (arith, lt, N.count) in
      by_token-snoc log x t
      ∙ ⊎_elim {C = by_token log t ++ event_if (event_of x) (nat_eq (token_in x) t) ≡ slice_index_or (histories new) t []}
      (λ (y : (nat_eq (token_in x) t ≡ true) × (token_in x ≡ t)).
      let here : token_in x < length old.heaps = omega (arith, within, y.1) in
      ap (λ b. by_token log t ++ event_if (event_of x) b) y.0
      ∙ ap (λ h. h ++ call_of 0 (event_of x) ∷ []) (is t within)
      ∙ ap (λ (u : ℕ). slice_index_or hs u [] ++ call_of 0 (event_of x) ∷ []) (sym y.1)
      ∙ sym (noted_same here)
      ∙ ap (λ u. slice_index_or (histories new) u []) y.1)
      (λ (y : (nat_eq (token_in x) t ≡ false) × (token_in x ≡ t → ⊥)).
      ap (λ b. by_token log t ++ event_if (event_of x) b) y.0
      ∙ append-nil (by_token log t)
      ∙ is t within
      ∙ sym (noted_other t (λ e. y.1 (sym e))))
      (eqb_tells (token_in x) t)

  -- a live place of a range that the event leaves
  pub noted_live : (u p s : ℕ) → u < length old.heaps → (u ≡ token_in x → Spares (event_of x) p) → live_at p (slice_index_or hs u []) ≡ Some s → live_at p (slice_index_or (histories new) u []) ≡ Some s
  noted_live u p s lt spares l = ⊎_elim {C = live_at p (slice_index_or (histories new) u []) ≡ Some s}
      (λ (y : (nat_eq u (token_in x) ≡ true) × (u ≡ token_in x)).
      let here : token_in x < length old.heaps = omega (arith, lt, y.1) in
      ap (λ v. live_at p (slice_index_or (histories new) v [])) y.1
      ∙ ap (live_at p) (noted_same here)
      ∙ spared (slice_index_or hs (token_in x) []) (event_of x) p s (spares y.1) (ap (λ v. live_at p (slice_index_or hs v [])) (sym y.1) ∙ l))
      (λ (y : (nat_eq u (token_in x) ≡ false) × (u ≡ token_in x → ⊥)). ap (live_at p) (noted_other u y.1) ∙ l)
      (eqb_tells u (token_in x))

-- ---- what all of them keep

module _ (top : ℕ) (old new : AllHeaps) (spots : List Spot) (log : List LogEntry) (xs : List Stand) (S : Stands top old spots log xs) (x : LogEntry) (N : Noted old new (token_in x) (event_of x)) where
  high_now : 16777216 + length new.heaps * new.size ≤ top
  high_now = subst (λ (n : ℕ). 16777216 + n * new.size ≤ top) (sym N.count) (subst (λ (n : ℕ). 16777216 + length old.heaps * n ≤ top) (sym N.size) S.high)

  -- a block that the entry leaves is still held
  held_now : (ys : List Stand) (n : ℕ) (y : Stand) → maker_at (log ++ x ∷ []) n ys ≡ maker_at log n xs → ((h : Held old log xs n y) → h.token ≡ token_in x → Spares (event_of x) y.at) → Held old log xs n y → Held new (log ++ x ∷ []) ys n y
  held_now ys n y same spares h = record {
    token = h.token;
    inside = omega (arith, h.inside, N.count);
    granted = subst (λ (j : ℕ). WasGranted (slice_get (log ++ x ∷ []) j) h.token y.at) (sym same) (still_granted log x (maker_at log n xs) h.token y.at h.granted);
    live = noted_live old new x N h.token y.at y.size h.inside (spares h) h.live;
  }

-- ---- a refusal

pub refused : (top : ℕ) (old new : AllHeaps) (spots : List Spot) (log : List LogEntry) (xs : List Stand) → Stands top old spots log xs → (t size : ℕ) → Noted old new t (event.Refuse size)
    → Stands top new spots (log ++ Refuse t size ∷ []) xs
refused top old new spots log xs S t size N =
    let x = Refuse t size in
    let same = grants_refused log t size in
    record {
      high = high_now top old new spots log xs S x N;
      legal = N.legal;
      logged = noted_log old new x N log S.logged;
      counted = ap length same ∙ S.counted;
      low = S.low;
      small = S.small;
      placed = λ n y e l. let p = S.placed n y e l in record {
        heap = λ k. held_now top old new spots log xs S x N xs n y (ap (λ (g : List ℕ). slice_index_or g (heaps_at n xs) 0) same) (λ h i. tt) (p.heap k);
        other = p.other;
      };
      differ = S.differ;
    }

-- ---- a release

pub released : (top : ℕ) (old new : AllHeaps) (spots : List Spot) (log : List LogEntry) (xs : List Stand) → Stands top old spots log xs → (n : ℕ) (x : Stand)
    → slice_get xs n ≡ Some x → x.live ≡ true → is_heap x.kind ≡ true → (t : ℕ) → Noted old new t (event.Release x.at)
    → Stands top new spots (log ++ Release t x.at ∷ []) (ended_at n xs)
released top old new spots log xs S n x e l k t N =
    let z = Release t x.at in
    let same = grants_released log t x.at in
    record {
      high = high_now top old new spots log xs S z N;
      legal = N.legal;
      logged = noted_log old new z N log S.logged;
      counted = ap length same ∙ S.counted ∙ sym (heaps_ended (length xs) n xs) ∙ ap (λ (i : ℕ). heaps_at i (ended_at n xs)) (sym (length_ended n xs));
      low = subst (λ (i : ℕ). AreLow i spots) (sym (length_ended n xs)) S.low;
      small = λ m y f. let o = ended_size n xs m y f in let s = S.small m o.0 o.1 in omega (arith, s, o.2);
      placed = λ m y f i.
          let o = ended_alive n xs m y f i in
          let p = S.placed m y o.0 i in record {
            heap = λ j. held_now top old new spots log xs S z N (ended_at n xs) m y
                (ap (λ (g : List ℕ). slice_index_or g (heaps_at m (ended_at n xs)) 0) same ∙ ap (λ (c : ℕ). slice_index_or (grants_from 0 log) c 0) (heaps_ended m n xs))
                (λ h u at. o.1 (S.differ m n y x o.0 e i l j k (sym at))) (p.heap j);
            other = p.other;
          };
      differ = λ m j y w f g i h a b at. S.differ m j y w (ended_alive n xs m y f i).0 (ended_alive n xs j w g h).0 i h a b at;
    }

-- ---- a grant

module _ (top : ℕ) (old new : AllHeaps) (spots : List Spot) (log : List LogEntry) (xs : List Stand) (S : Stands top old spots log xs) (t size p : ℕ) (inside : t < length old.heaps)
    (fits : FitsAt (range_at old.size t) (slice_index_or (histories old) t []) size 16 p) (small : size < 2 ^ 32) (N : Noted old new t (event.Grant size p)) where
  abbrev entry : LogEntry
  entry = Grant t size p

  abbrev x : Stand
  x = record { kind = kind.Heap; size = size; live = true; at = p }

  abbrev ys : List Stand
  ys = xs ++ x ∷ []

  grants : grants_from 0 (log ++ entry ∷ []) ≡ grants_from 0 log ++ length log ∷ []
  grants = grants_granted log t size p

  old_maker : (n : ℕ) (y : Stand) → slice_get xs n ≡ Some y → is_heap y.kind ≡ true → maker_at (log ++ entry ∷ []) n ys ≡ maker_at log n xs
  old_maker n y e h =
      let w = get_within xs n y e in
      let b = heaps_below xs n y e h in
      let c = S.counted in
      ap (λ (g : List ℕ). slice_index_or g (heaps_at n ys) 0) grants
      ∙ ap (λ (k : ℕ). slice_index_or (grants_from 0 log ++ length log ∷ []) k 0) (heaps_less n xs x (omega (arith, w)))
      ∙ at_less (grants_from 0 log) (length log) (heaps_at n xs) (omega (arith, b, c))

  new_maker : maker_at (log ++ entry ∷ []) (length xs) ys ≡ length log
  new_maker =
      ap (λ (g : List ℕ). slice_index_or g (heaps_at (length xs) ys) 0) grants
      ∙ at_last (grants_from 0 log) (length log) (heaps_at (length xs) ys) (heaps_less (length xs) xs x (omega arith) ∙ sym S.counted)

  -- what lived doesn't stand there
  not_there : (u q s : ℕ) → u ≡ t → live_at q (slice_index_or (histories old) u []) ≡ Some s → p ≡ q → ⊥
  not_there u q s same l at =
      let h = slice_index_or (histories old) t [] in
      let here : live_at p h ≡ Some s = ap (λ v. live_at v h) at ∙ ap (λ v. live_at q (slice_index_or (histories old) v [])) (sym same) ∙ l in
      let f : false ≡ true = sym (clear_not_live h p (rounded size) (omega arith) fits.clear) ∙ ap is_some here in
      cc

  not_held : (n : ℕ) (y : Stand) → Held old log xs n y → p ≡ y.at → ⊥
  not_held n y h at =
      let w = held_within old log xs n y S.legal h in
      let above : 16777216 + t * old.size ≤ p = fits.above in
      let within : p + rounded size ≤ 16777216 + t * old.size + old.size = fits.within in
      let first : 16777216 + h.token * old.size ≤ y.at = w.0 in
      let last : y.at + rounded y.size ≤ 16777216 + h.token * old.size + old.size = w.1 in
      let a : 16 ≤ rounded size = rounded_some size in
      let b : 16 ≤ rounded y.size = rounded_some y.size in
      ⊎_elim {C = ⊥}
      (λ (lt : h.token < t). let r : h.token * old.size + old.size ≤ t * old.size = row_fits h.token old.size t old.size lt (omega arith) in omega (arith, above, last, r, b, at))
      (λ (ge : t ≤ h.token). ⊎_elim {C = ⊥}
      (λ (lt : t < h.token). let r : t * old.size + old.size ≤ h.token * old.size = row_fits t old.size h.token old.size lt (omega arith) in omega (arith, within, first, r, a, at))
      (λ (le : h.token ≤ t). not_there h.token y.at y.size (omega (arith, ge, le)) h.live at)
      (cases_lt t h.token))
      (cases_lt h.token t)

  held_new : Held new (log ++ entry ∷ []) ys (length xs) x
  held_new = record {
    token = t;
    inside = omega (arith, inside, N.count);
    granted = subst (λ (j : ℕ). WasGranted (slice_get (log ++ entry ∷ []) j) t p) (sym new_maker) (subst (λ (o : Option LogEntry). WasGranted o t p) (sym (get_last log entry)) (refl, refl));
    live = ap (live_at p) (noted_same old new entry N inside) ∙ granted_live (slice_index_or (histories old) t []) size p;
  }

  placed_now : (n : ℕ) (y : Stand) → slice_get ys n ≡ Some y → y.live ≡ true → Placed new spots (log ++ entry ∷ []) ys n y
  placed_now n y e l = ⊎_elim {C = Placed new spots (log ++ entry ∷ []) ys n y}
      (λ (h : (slice_get xs n ≡ Some y) × (n < length xs)).
      let q = S.placed n y h.0 l in record {
        heap = λ k. held_now top old new spots log xs S entry N ys n y (old_maker n y h.0 k) (λ i u. not_held n y i) (q.heap k);
        other = q.other;
      })
      (λ (h : (n ≡ length xs) × (x ≡ y)). subst (λ (z : Stand). Placed new spots (log ++ entry ∷ []) ys n z) h.1
      (subst (λ (m : ℕ). Placed new spots (log ++ entry ∷ []) ys m x) (sym h.0) (record { heap = λ k. held_new; other = λ k some. absurd (let f : true ≡ false = k in cc) })))
      (get_more xs x y n e)

  differ_now : (n m : ℕ) (y z : Stand) → slice_get ys n ≡ Some y → slice_get ys m ≡ Some z → y.live ≡ true → z.live ≡ true → is_heap y.kind ≡ true → is_heap z.kind ≡ true → y.at ≡ z.at → n ≡ m
  differ_now n m y z e f l k a b at = ⊎_elim {C = n ≡ m}
      (λ (h : (slice_get xs n ≡ Some y) × (n < length xs)). ⊎_elim {C = n ≡ m}
      (λ (i : (slice_get xs m ≡ Some z) × (m < length xs)). S.differ n m y z h.0 i.0 l k a b at)
      (λ (i : (m ≡ length xs) × (x ≡ z)). absurd (not_held n y ((S.placed n y h.0 l).heap a) (ap (λ (w : Stand). w.at) i.1 ∙ sym at)))
      (get_more xs x z m f))
      (λ (h : (n ≡ length xs) × (x ≡ y)). ⊎_elim {C = n ≡ m}
      (λ (i : (slice_get xs m ≡ Some z) × (m < length xs)). absurd (not_held m z ((S.placed m z i.0 k).heap b) (ap (λ (w : Stand). w.at) h.1 ∙ at)))
      (λ (i : (m ≡ length xs) × (x ≡ z)). h.0 ∙ sym i.0)
      (get_more xs x z m f))
      (get_more xs x y n e)

  pub granted : Stands top new spots (log ++ entry ∷ []) ys
  granted = record {
    high = high_now top old new spots log xs S entry N;
    legal = N.legal;
    logged = noted_log old new entry N log S.logged;
    counted =
        let g : length (grants_from 0 (log ++ entry ∷ [])) ≡ length (grants_from 0 log ++ length log ∷ []) = ap length grants in
        let n = length_more (grants_from 0 log) (length log) in
        let m = heaps_more xs x in
        let c = S.counted in
        omega (arith, g, n, m, c);
    low = low_more (length xs) (length ys) spots (let m = length_more xs x in omega (arith, m)) S.low;
    small = λ n y e. ⊎_elim {C = y.size < 2 ^ 32}
        (λ (h : (slice_get xs n ≡ Some y) × (n < length xs)). S.small n y h.0)
        (λ (h : (n ≡ length xs) × (x ≡ y)). subst (λ (z : Stand). z.size < 2 ^ 32) h.1 small)
        (get_more xs x y n e);
    placed = placed_now;
    differ = differ_now;
  }
