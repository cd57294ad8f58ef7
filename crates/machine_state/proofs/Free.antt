-- What is free for a new block.
use Rattle.std.proofs.Common.{◌≡◌, ◌⊎◌, ⊎_elim, inl, inr, ℕ, zero, suc, ◌+◌, ◌*◌, ◌<◌, ◌≤◌, Bool, true, false, List, [], ◌∷◌, ◌++◌, length, get_or, Option, Some, None, refl, sym, ap, subst, ◌∙◌, arith}
use Rattle.std.specs.Prelude.{slice_get, slice_index_or, if◌then◌else◌, is_some}
use Rattle.std.proofs.lemmas.Bool.{cases_lt}
use Rattle.std.proofs.lemmas.Nat.{row_fits}
use Rattle.std.proofs.lemmas.List.{length-map}
use Rattle.c_core.specs.declared.values.BlockKind.{BlockKind}
use Rattle.c_core.specs.declared.values.BlockKind.TheVariants as kind
use Rattle.c_core.specs.Blocks.{Block, Blocks}
use Rattle.c_meaning.specs.declared.log.LogEntry.{LogEntry}
use Rattle.c_meaning.specs.World.{is_heap}
use Rattle.range_heap.specs.declared.call.HeapCall.{HeapCall}
use Rattle.range_heap.specs.Blocks.{rounded, live_blocks, live_at, live, IsClear}
use Rattle.range_heap.specs.History.{FitsAt}
use Rattle.range_heap.specs.Ranges.{range_first, range_at, InRange, AllLegal}
use Rattle.range_heap.specs.Seen.{Kept, AllHeaps}
use Rattle.range_heap.specs.Steps.{histories}
use Rattle.range_heap.proofs.Clear.{clear_of, rounded_some}
use Rattle.range_heap.proofs.Histories.{legal_good, within_at}
use Rattle.block_memory.specs.Rooms.{room, AreApart, IsFree}
use Rattle.machine_state.specs.declared.ledger.Spot.{Spot}
use Rattle.machine_state.specs.Stands.{Stand, stand_of, stands_of, Under, AreLow, end_of, Held, Placed, Stands}

-- each live block is apart
pub free_of : (bs : Blocks) (starts : List ℕ) (at count : ℕ)
    → ((n : ℕ) (x : Stand) → slice_get (stands_of bs starts) n ≡ Some x → x.live ≡ true → AreApart x.at (room x.kind x.size) at count) → IsFree bs starts at count
free_of [] starts at count h = tt
free_of (b ∷ bs) [] at count h = tt
free_of (b ∷ bs) (s ∷ starts) at count h = (λ l. h 0 (stand_of b s) refl l, free_of bs starts at count (λ n x e l. h (suc n) x e l))

-- ---- below the ranges

pub under_end : (spots : List Spot) (n end : ℕ) → Under spots n end → end ≤ end_of spots
under_end [] n end u = absurd u
under_end (s ∷ spots) n end u = u.0

heap_room : (kind : BlockKind) (size : ℕ) → is_heap kind ≡ true → room kind size ≡ rounded size
heap_room kind.Heap size h = refl
heap_room kind.Fixed size h = absurd (let f : false ≡ true = h in cc)
heap_room kind.ReadOnly size h = refl
heap_room kind.Auto size h = refl

room_cases : (r : ℕ) → (r ≡ 0) ⊎ (0 < r)
room_cases zero = inl refl
room_cases (suc r) = inr (omega arith)

bool_cases : (b : Bool) → (b ≡ true) ⊎ (b ≡ false)
bool_cases true = inl refl
bool_cases false = inr refl

histories_long : (all : AllHeaps) → length (histories all) ≡ length all.heaps
histories_long all = length-map all.heaps (λ (k : Kept). k.history)

-- where an allocated block stands
pub held_within : (all : AllHeaps) (log : List LogEntry) (xs : List Stand) (n : ℕ) (x : Stand) → AllLegal all.size (histories all) → (h : Held all log xs n x)
    → (range_first all.size h.token ≤ x.at) × (x.at + rounded x.size ≤ range_first all.size h.token + all.size)
held_within all log xs n x legal h =
    let r = range_at all.size h.token in
    let history = slice_index_or (histories all) h.token [] in
    let long = histories_long all in
    let g = legal_good r history (legal h.token (omega (arith, h.inside, long))) in
    let w = within_at r (live_blocks history) x.at x.size g.0 h.live in
    (w.1, w.2)

module _ (top : ℕ) (all : AllHeaps) (spots : List Spot) (log : List LogEntry) (bs : Blocks) (starts : List ℕ) (S : Stands top all spots log (stands_of bs starts)) where
  abbrev xs : List Stand
  xs = stands_of bs starts

  -- behind the topmost object, up to the ranges
  pub object_free : (at count : ℕ) → end_of spots ≤ at → at + count ≤ 16777216 → IsFree bs starts at count
  object_free at count above low = free_of bs starts at count apart
    where
      apart : (n : ℕ) (x : Stand) → slice_get xs n ≡ Some x → x.live ≡ true → AreApart x.at (room x.kind x.size) at count
      apart n x e l =
          let p = S.placed n x e l in
          ⊎_elim {C = AreApart x.at (room x.kind x.size) at count}
          (λ (h : is_heap x.kind ≡ true).
          let i = p.heap h in
          let w = held_within all log xs n x S.legal i in
          let first : 16777216 ≤ range_first all.size i.token = omega arith in
          inr (inr (inr (omega (arith, w.0, low, first)))))
          (λ (h : is_heap x.kind ≡ false).
          ⊎_elim {C = AreApart x.at (room x.kind x.size) at count}
          (λ (z : room x.kind x.size ≡ 0). inl z)
          (λ (some : 0 < room x.kind x.size). let u = under_end spots n (x.at + room x.kind x.size) (p.other h some) in inr (inr (inl (omega (arith, u, above)))))
          (room_cases (room x.kind x.size)))
          (bool_cases (is_heap x.kind))

  -- no place at all
  pub nothing_free : (at : ℕ) → IsFree bs starts at 0
  nothing_free at = free_of bs starts at 0 (λ n x e l. inr (inl refl))

  low_end : (count : ℕ) (objects : List Spot) → AreLow count objects → end_of objects ≤ 16777216
  low_end count [] a = omega arith
  low_end count (s ∷ objects) a = a.0

  -- where a range grants a place
  module _ (t size p : ℕ) (inside : t < length all.heaps) (fits : FitsAt (range_at all.size t) (slice_index_or (histories all) t []) size 16 p) where
    rows : (u v : ℕ) → u < v → u * all.size + all.size ≤ v * all.size
    rows u v lt = row_fits u all.size v all.size lt (omega arith)

    other_apart : (n : ℕ) (x : Stand) → Under spots n (x.at + room x.kind x.size) → AreApart x.at (room x.kind x.size) p (rounded size)
    other_apart n x u =
        let e = under_end spots n (x.at + room x.kind x.size) u in
        let l = low_end (length xs) spots S.low in
        let above : 16777216 + t * all.size ≤ p = fits.above in
        inr (inr (inl (omega (arith, e, l, above))))

    held_apart : (n : ℕ) (x : Stand) → room x.kind x.size ≡ rounded x.size → Held all log xs n x → AreApart x.at (room x.kind x.size) p (rounded size)
    held_apart n x r h =
        let w = held_within all log xs n x S.legal h in
        let above : 16777216 + t * all.size ≤ p = fits.above in
        let within : p + rounded size ≤ 16777216 + t * all.size + all.size = fits.within in
        let first : 16777216 + h.token * all.size ≤ x.at = w.0 in
        let last : x.at + rounded x.size ≤ 16777216 + h.token * all.size + all.size = w.1 in
        ⊎_elim {C = AreApart x.at (room x.kind x.size) p (rounded size)}
        (λ (lt : h.token < t). let y = rows h.token t lt in inr (inr (inl (omega (arith, r, last, y, above)))))
        (λ (ge : t ≤ h.token). ⊎_elim {C = AreApart x.at (room x.kind x.size) p (rounded size)}
        (λ (lt : t < h.token). let y = rows t h.token lt in inr (inr (inr (omega (arith, first, y, within)))))
        (λ (le : h.token ≤ t).
        let same : h.token ≡ t = omega (arith, ge, le) in
        let here : live_at x.at (slice_index_or (histories all) t []) ≡ Some x.size = subst (λ (u : ℕ). live_at x.at (slice_index_or (histories all) u []) ≡ Some x.size) same h.live in
        ⊎_elim {C = AreApart x.at (room x.kind x.size) p (rounded size)}
        (λ (y : p + rounded size ≤ x.at). inr (inr (inr y)))
        (λ (y : x.at + rounded x.size ≤ p). inr (inr (inl (omega (arith, r, y)))))
        (clear_of (live_blocks (slice_index_or (histories all) t [])) p (rounded size) x.at x.size fits.clear here))
        (cases_lt t h.token))
        (cases_lt h.token t)

    pub heap_free : IsFree bs starts p (rounded size)
    heap_free = free_of bs starts p (rounded size) apart
      where
        apart : (n : ℕ) (x : Stand) → slice_get xs n ≡ Some x → x.live ≡ true → AreApart x.at (room x.kind x.size) p (rounded size)
        apart n x e l =
            let q = S.placed n x e l in
            ⊎_elim {C = AreApart x.at (room x.kind x.size) p (rounded size)}
            (λ (h : is_heap x.kind ≡ true). held_apart n x (heap_room x.kind x.size h) (q.heap h))
            (λ (h : is_heap x.kind ≡ false).
            ⊎_elim {C = AreApart x.at (room x.kind x.size) p (rounded size)}
            (λ (z : room x.kind x.size ≡ 0). inl z)
            (λ (some : 0 < room x.kind x.size). other_apart n x (q.other h some))
            (room_cases (room x.kind x.size)))
            (bool_cases (is_heap x.kind))

    -- it ends in the memory
    pub heap_inside : p + rounded size ≤ top
    heap_inside =
        let y : t * all.size + all.size ≤ length all.heaps * all.size = rows t (length all.heaps) inside in
        let within : p + rounded size ≤ 16777216 + t * all.size + all.size = fits.within in
        omega (arith, y, within, S.high)
