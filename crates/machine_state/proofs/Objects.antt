-- Blocks that are no allocated ones are made and end.
use Rattle.std.proofs.Common.{◌≡◌, ◌⊎◌, ⊎_elim, inl, inr, ℕ, zero, suc, ◌+◌, ◌*◌, ◌<◌, ◌≤◌, ◌^◌, Bool, true, false, List, [], ◌∷◌, ◌++◌, length, Option, Some, None, refl, sym, ap, subst, ◌∙◌, arith}
use Rattle.std.specs.Prelude.{slice_get, slice_index_or, if◌then◌else◌}
use Rattle.c_core.specs.declared.values.BlockKind.{BlockKind}
use Rattle.c_meaning.specs.declared.log.LogEntry.{LogEntry}
use Rattle.c_meaning.specs.Log.{by_token, WasGranted}
use Rattle.c_meaning.specs.World.{is_heap}
use Rattle.range_heap.specs.Blocks.{live_at}
use Rattle.range_heap.specs.Seen.{AllHeaps}
use Rattle.range_heap.specs.Steps.{histories}
use Rattle.block_memory.specs.Rooms.{room}
use Rattle.machine_frames.specs.Views.{grants_from}
use Rattle.machine_state.specs.declared.ledger.Spot.{Spot}
use Rattle.machine_state.specs.Stands.{Stand, ended_at, heaps_at, maker_at, Under, AreLow, end_of, Held, Placed, Stands}
use Rattle.machine_state.proofs.Lists.{some_is, length_more, get_more, get_within, heaps_less, heaps_more, length_ended, heaps_ended, ended_alive, ended_size}
use Rattle.machine_state.proofs.Free.{under_end}

pub low_more : (count more : ℕ) (spots : List Spot) → count ≤ more → AreLow count spots → AreLow more spots
low_more count more [] h a = tt
low_more count more (s ∷ spots) h a = (a.0, omega (arith, h, a.1), low_more count more spots h a.2)

-- a block whose entry has the same number is held as before
pub held_as : (all : AllHeaps) (log : List LogEntry) (xs ys : List Stand) (n : ℕ) (x : Stand) → heaps_at n ys ≡ heaps_at n xs → Held all log xs n x → Held all log ys n x
held_as all log xs ys n x e h = record {
  token = h.token;
  inside = h.inside;
  granted = subst (λ (k : ℕ). WasGranted (slice_get log (slice_index_or (grants_from 0 log) k 0)) h.token x.at) (sym e) h.granted;
  live = h.live;
}

kind_not : (b : Bool) {P : Type 0} → b ≡ false → b ≡ true → P
kind_not b e f = absurd (cc)

module _ (top : ℕ) (all : AllHeaps) (spots : List Spot) (log : List LogEntry) (xs : List Stand) (S : Stands top all spots log xs) where
  -- one block more, that is no allocated one, in a region that holds it
  made : (x : Stand) (after : List Spot) → is_heap x.kind ≡ false → x.size < 2 ^ 32 → AreLow (length (xs ++ x ∷ [])) after
      → ((n end : ℕ) → Under spots n end → Under after n end)
      → (0 < room x.kind x.size → Under after (length xs) (x.at + room x.kind x.size))
      → Stands top all after log (xs ++ x ∷ [])
  made x after other size low keeps here = record {
    high = S.high;
    legal = S.legal;
    logged = S.logged;
    counted =
        let m = heaps_more xs x in
        let z : ◌≡◌ {A = ℕ} (if is_heap x.kind then 1 else 0) 0 = ap (λ (b : Bool). let c : ℕ = if b then 1 else 0 in c) other in
        let c = S.counted in
        omega (arith, m, z, c);
    low = low;
    small = λ n y e. ⊎_elim {C = y.size < 2 ^ 32}
        (λ (h : (slice_get xs n ≡ Some y) × (n < length xs)). S.small n y h.0)
        (λ (h : (n ≡ length xs) × (x ≡ y)). subst (λ (z : Stand). z.size < 2 ^ 32) h.1 size)
        (get_more xs x y n e);
    placed = λ n y e l. ⊎_elim {C = Placed all after log (xs ++ x ∷ []) n y}
        (λ (h : (slice_get xs n ≡ Some y) × (n < length xs)).
        let p = S.placed n y h.0 l in record {
          heap = λ k. held_as all log xs (xs ++ x ∷ []) n y (heaps_less n xs x (omega (arith, h.1))) (p.heap k);
          other = λ k some. keeps n (y.at + room y.kind y.size) (p.other k some);
        })
        (λ (h : (n ≡ length xs) × (x ≡ y)). record {
          heap = λ k. kind_not (is_heap x.kind) other (ap (λ (z : Stand). is_heap z.kind) h.1 ∙ k);
          other = λ k some.
              let now : 0 < room x.kind x.size = subst (λ (z : Stand). 0 < room z.kind z.size) (sym h.1) some in
              subst (λ (z : Stand). Under after n (z.at + room z.kind z.size)) h.1 (subst (λ (m : ℕ). Under after m (x.at + room x.kind x.size)) (sym h.0) (here now));
        })
        (get_more xs x y n e);
    differ = λ n m y z e f l k a b same. ⊎_elim {C = n ≡ m}
        (λ (h : (slice_get xs n ≡ Some y) × (n < length xs)). ⊎_elim {C = n ≡ m}
        (λ (i : (slice_get xs m ≡ Some z) × (m < length xs)). S.differ n m y z h.0 i.0 l k a b same)
        (λ (i : (m ≡ length xs) × (x ≡ z)). kind_not (is_heap x.kind) other (ap (λ (w : Stand). is_heap w.kind) i.1 ∙ b))
        (get_more xs x z m f))
        (λ (h : (n ≡ length xs) × (x ≡ y)). kind_not (is_heap x.kind) other (ap (λ (w : Stand). is_heap w.kind) h.1 ∙ a))
        (get_more xs x y n e);
  }

  -- behind the topmost object
  pub object_made : (kind : BlockKind) (size end : ℕ) → is_heap kind ≡ false → size < 2 ^ 32 → end ≡ end_of spots + room kind size → end ≤ 16777216
      → Stands top all (record { number = length xs; end = end } ∷ spots) log (xs ++ record { kind = kind; size = size; live = true; at = end_of spots } ∷ [])
  object_made kind size end other small is low =
      let x : Stand = record { kind = kind; size = size; live = true; at = end_of spots } in
      let m = length_more xs x in
      made x (record { number = length xs; end = end } ∷ spots) other small
      (low, omega (arith, m), low_more (length xs) (length (xs ++ x ∷ [])) spots (omega (arith, m)) S.low)
      (λ n stop u. let e = under_end spots n stop u in (omega (arith, e, is), inr u))
      (λ some. (omega (arith, is), inl refl))

  -- one that takes no address
  pub nothing_made : (kind : BlockKind) (size at : ℕ) → is_heap kind ≡ false → size < 2 ^ 32 → room kind size ≡ 0
      → Stands top all spots log (xs ++ record { kind = kind; size = size; live = true; at = at } ∷ [])
  nothing_made kind size at other small none =
      let x : Stand = record { kind = kind; size = size; live = true; at = at } in
      let m = length_more xs x in
      made x spots other small (low_more (length xs) (length (xs ++ x ∷ [])) spots (omega (arith, m)) S.low) (λ n stop u. u) (λ some. absurd (omega (arith, some, none)))

  -- a block ends
  pub block_ended : (n : ℕ) → Stands top all spots log (ended_at n xs)
  block_ended n = record {
    high = S.high;
    legal = S.legal;
    logged = S.logged;
    counted = S.counted ∙ sym (heaps_ended (length xs) n xs) ∙ ap (λ (k : ℕ). heaps_at k (ended_at n xs)) (sym (length_ended n xs));
    low = subst (λ (k : ℕ). AreLow k spots) (sym (length_ended n xs)) S.low;
    small = λ m x e. let o = ended_size n xs m x e in let s = S.small m o.0 o.1 in omega (arith, s, o.2);
    placed = λ m x e l.
        let o = ended_alive n xs m x e l in
        let p = S.placed m x o.0 l in
        record { heap = λ k. held_as all log xs (ended_at n xs) m x (heaps_ended m n xs) (p.heap k); other = p.other };
    differ = λ m k x y e f l i a b same. S.differ m k x y (ended_alive n xs m x e l).0 (ended_alive n xs k y f i).0 l i a b same;
  }

-- a dead object leaves the region
pub object_left : (top : ℕ) (all : AllHeaps) (s : Spot) (spots : List Spot) (log : List LogEntry) (xs : List Stand) → Stands top all (s ∷ spots) log xs
    → ((x : Stand) → slice_get xs s.number ≡ Some x → x.live ≡ false) → Stands top all spots log xs
object_left top all s spots log xs S dead = record {
  high = S.high;
  legal = S.legal;
  logged = S.logged;
  counted = S.counted;
  low = S.low.2;
  small = S.small;
  placed = λ n x e l. let p = S.placed n x e l in record {
    heap = p.heap;
    other = λ k some. ⊎_elim {C = Under spots n (x.at + room x.kind x.size)}
        (λ (i : n ≡ s.number). kind_not x.live (dead x (subst (λ (m : ℕ). slice_get xs m ≡ Some x) i e)) l)
        (λ (u : Under spots n (x.at + room x.kind x.size)). u)
        (p.other k some).1;
  };
  differ = S.differ;
}
