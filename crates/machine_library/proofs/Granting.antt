-- What holds behind an answer of the heap, and behind a release.
use Rattle.std.proofs.Common.{◌≡◌, ⊎_elim, ℕ, suc, ◌+◌, ◌<◌, ◌≤◌, ◌^◌, true, List, [], ◌∷◌, ◌++◌, length, take, Option, Some, None, refl, sym, ap, subst, ◌∙◌, arith}
use Rattle.std.specs.Prelude.{slice_get, slice_index_or, is_some}
use Rattle.std.proofs.lemmas.Bool.{cases_lt}
use Rattle.c_core.specs.declared.values.BlockKind.TheVariants as kind
use Rattle.c_core.specs.declared.values.Pointer.TheVariants.{Object}
use Rattle.c_core.specs.Blocks.{Block, Blocks, placed, killed}
use Rattle.range_heap.specs.declared.call.HeapEvent.TheVariants as event
use Rattle.range_heap.specs.Blocks.{rounded, live}
use Rattle.range_heap.specs.Ranges.{InRange}
use Rattle.range_heap.specs.Seen.{AllHeaps}
use Rattle.range_heap.specs.Steps.{histories}
use Rattle.range_heap.proofs.Apart.{one_range}
use Rattle.range_heap.proofs.Clear.{rounded_some}
use Rattle.c_meaning.specs.declared.log.LogEntry.{LogEntry}
use Rattle.c_meaning.specs.declared.log.LogEntry.TheVariants.{Grant, Refuse, Release}
use Rattle.c_meaning.specs.World.{is_heap, maker}
use Rattle.c_meaning.specs.Log.{WasGranted}
use Rattle.block_memory.specs.Given.{IsGiven}
use Rattle.block_memory.specs.Rooms.{IsFree}
use Rattle.block_memory.specs.Shape.{Tells}
use Rattle.block_memory.specs.declared.memory.BlockInfo.{BlockInfo}
use Rattle.machine_frames.specs.declared.state.Rest.{Rest}
use Rattle.machine_state.specs.declared.ledger.Spot.{Spot}
use Rattle.machine_state.specs.declared.ledger.Ledger.{Ledger}
use Rattle.machine_state.specs.Stands.{Stand, stand_of, stands_of, ended_at, maker_at, Stands}
use Rattle.machine_state.specs.State.{state_in, IsSound, AreLocals, SameRanges, AreMore, spots_of}
use Rattle.machine_state.proofs.Blocks.{stands_at, stands_killed, length_killed, heaps_same}
use Rattle.machine_state.proofs.Free.{heap_free, heap_inside, held_within}
use Rattle.machine_state.proofs.Heap.{granted, refused, released}
use Rattle.machine_state.proofs.Lists.{length_more}
use Rattle.machine_state.proofs.Sound.{sound_placed, locals_more}
use Rattle.machine_library.specs.Leads.{IsNoted, Called}
use Rattle.machine_library.proofs.Asking.{noted_as, event_fits}

-- the ledger behind an entry, and how many blocks there are
abbrev pub Later : Ledger → (count : ℕ) → Ledger → Type 0
Later l count now = now ≡ record l { ranges = now.ranges; count = count; rest = record (l.rest) { log = now.rest.log } }

later_count : (l now : Ledger) (count : ℕ) → Later l count now → now.count ≡ count
later_count l now count e = ap (λ (x : Ledger). x.count) e

later_region : (l now : Ledger) (count : ℕ) → Later l count now → now.region.items ≡ l.region.items
later_region l now count e = ap (λ (x : Ledger). x.region.items) e

later_fallback : (l now : Ledger) (count : ℕ) → Later l count now → now.fallback ≡ l.fallback
later_fallback l now count e = ap (λ (x : Ledger). x.fallback) e

pub later_rest : (l now : Ledger) (count : ℕ) → Later l count now → now.rest ≡ record (l.rest) { log = now.rest.log }
later_rest l now count e = ap (λ (x : Ledger). x.rest) e

-- what a call leaves
pub called_later : (given given_now : List ℕ) (l now : Ledger) (count : ℕ) → AreMore given given_now → SameRanges l.ranges now.ranges → Later l count now → Called given l given_now now
called_later given given_now l now count more same e =
    let r = later_rest l now count e in
    record {
      keeps = record {
        sizes = more;
        base = ap (λ (x : Rest). x.base) r;
        saved = ap (λ (x : Rest). take x.base x.locals.items) r;
        ranges = same;
        fallback = later_fallback l now count e;
      };
      ticks = ap (λ (x : Rest). x.ticks) r;
      locals = ap (λ (x : Rest). x.locals.items) r;
    }

module _ (bs : Blocks) (starts : List ℕ) (top : ℕ) (l now : Ledger) (s : IsSound bs starts top l) (count : ℕ) (later : Later l count now) where
  locals_later : (n : ℕ) → length bs ≤ n → AreLocals n now.rest.locals.items
  locals_later n h = subst (λ (r : Rest). AreLocals n r.locals.items) (sym (later_rest l now count later)) (locals_more (length bs) n l.rest.locals.items h s.locals)

  base_later : now.rest.base ≤ length now.rest.locals.items
  base_later = subst (λ (r : Rest). r.base ≤ length r.locals.items) (sym (later_rest l now count later)) s.base

  room_later : now.rest.room ≤ 4194304
  room_later = subst (λ (r : Rest). r.room ≤ 4194304) (sym (later_rest l now count later)) s.room

  read_later : now.rest.read ≤ length now.rest.input.items
  read_later = subst (λ (r : Rest). r.read ≤ length r.input.items) (sym (later_rest l now count later)) s.read

  spots_later : (log : List LogEntry) (xs : List Stand) → Stands top now.ranges (spots_of l.region.items) log xs → now.rest.log.items ≡ log → Stands top now.ranges (spots_of now.region.items) now.rest.log.items xs
  spots_later log xs st e =
      subst (λ (r : List Spot). Stands top now.ranges (spots_of r) now.rest.log.items xs) (sym (later_region l now count later))
      (subst (λ (g : List LogEntry). Stands top now.ranges (spots_of l.region.items) g xs) (sym e) st)

  -- nothing was granted
  pub sound_refused : (t size : ℕ) → IsNoted l.ranges now.ranges t (event.Refuse size) → count ≡ l.count → now.rest.log.items ≡ l.rest.log.items ++ Refuse t size ∷ [] → IsSound bs starts top now
  sound_refused t size n same log = record {
    stands = spots_later (l.rest.log.items ++ Refuse t size ∷ []) (stands_of bs starts) (refused top l.ranges now.ranges (spots_of l.region.items) l.rest.log.items (stands_of bs starts) s.stands t size (noted_as l.ranges now.ranges t (event.Refuse size) n)) log;
    long = s.long;
    count = later_count l now count later ∙ same ∙ s.count;
    room = room_later;
    locals = locals_later (length bs) (omega arith);
    base = base_later;
    read = read_later;
  }

  -- a block was granted and made
  pub sound_granted : (t size p : ℕ) (cs : Blocks) (starts_now : List ℕ) (top_now : ℕ) → t < length l.ranges.heaps → IsNoted l.ranges now.ranges t (event.Grant size p) → size < 2 ^ 32 → count ≡ suc l.count
      → now.rest.log.items ≡ l.rest.log.items ++ Grant t size p ∷ [] → cs ≡ placed bs kind.Heap size → starts_now ≡ starts ++ p ∷ [] → top_now ≡ top → IsSound cs starts_now top_now now
  sound_granted t size p cs starts_now top_now inside n small more log blocks start tops =
      let fits = (event_fits top l.ranges now.ranges (spots_of l.region.items) l.rest.log.items (stands_of bs starts) s.stands t (event.Grant size p) n inside).0 in
      sound_placed bs cs starts starts_now top top_now l now s kind.Heap size p blocks start tops (later_count l now count later ∙ more) (locals_later (suc (length bs)) (omega arith)) base_later room_later read_later
      (spots_later (l.rest.log.items ++ Grant t size p ∷ []) (stands_of bs starts ++ record { kind = kind.Heap; size = size; live = true; at = p } ∷ [])
      (granted top l.ranges now.ranges (spots_of l.region.items) l.rest.log.items (stands_of bs starts) s.stands t size p inside fits small (noted_as l.ranges now.ranges t (event.Grant size p) n)) log)

  -- a block was given back
  pub sound_released : (number t at : ℕ) (x : Stand) (cs : Blocks) (starts_now : List ℕ) (top_now : ℕ) → slice_get (stands_of bs starts) number ≡ Some x → x.live ≡ true → is_heap x.kind ≡ true → at ≡ x.at
      → IsNoted l.ranges now.ranges t (event.Release at) → count ≡ l.count → now.rest.log.items ≡ l.rest.log.items ++ Release t at ∷ [] → cs ≡ killed bs number → starts_now ≡ starts → top_now ≡ top
      → IsSound cs starts_now top_now now
  sound_released number t at x cs starts_now top_now e alive heap place n same log blocks start tops =
      let long : length cs ≡ length bs = ap (λ (b : Blocks). length b) blocks ∙ length_killed bs number in
      let is : now.rest.log.items ≡ l.rest.log.items ++ Release t x.at ∷ [] = log ∙ ap (λ (p : ℕ). l.rest.log.items ++ Release t p ∷ []) place in
      let n2 : IsNoted l.ranges now.ranges t (event.Release x.at) = subst (λ (p : ℕ). IsNoted l.ranges now.ranges t (event.Release p)) place n in
      let st = spots_later (l.rest.log.items ++ Release t x.at ∷ []) (ended_at number (stands_of bs starts))
      (released top l.ranges now.ranges (spots_of l.region.items) l.rest.log.items (stands_of bs starts) s.stands number x e alive heap t (noted_as l.ranges now.ranges t (event.Release x.at) n2)) is in
      record {
        stands = subst (λ (u : ℕ). Stands u now.ranges (spots_of now.region.items) now.rest.log.items (stands_of cs starts_now)) (sym tops)
            (subst (λ (y : List ℕ). Stands top now.ranges (spots_of now.region.items) now.rest.log.items (stands_of cs y)) (sym start)
            (subst (λ (b : Blocks). Stands top now.ranges (spots_of now.region.items) now.rest.log.items (stands_of b starts)) (sym blocks)
            (subst (λ (xs : List Stand). Stands top now.ranges (spots_of now.region.items) now.rest.log.items xs) (sym (stands_killed bs starts number)) st)));
        long = ap (λ (y : List ℕ). length y) start ∙ s.long ∙ sym long;
        count = later_count l now count later ∙ same ∙ s.count ∙ sym long;
        room = room_later;
        locals = locals_later (length cs) (omega (arith, long));
        base = base_later;
        read = read_later;
      }

-- ---- the place of a new block

pub granted_free : (bs : Blocks) (starts : List ℕ) (top : ℕ) (l : Ledger) (ranges : AllHeaps) (t size p : ℕ) → IsSound bs starts top l → t < length l.ranges.heaps → IsNoted l.ranges ranges t (event.Grant size p) → IsFree bs starts p (rounded size)
granted_free bs starts top l ranges t size p s inside n =
    let fits = (event_fits top l.ranges ranges (spots_of l.region.items) l.rest.log.items (stands_of bs starts) s.stands t (event.Grant size p) n inside).0 in
    heap_free top l.ranges (spots_of l.region.items) l.rest.log.items bs starts s.stands t size p inside fits

pub granted_inside : (bs : Blocks) (starts : List ℕ) (top : ℕ) (l : Ledger) (ranges : AllHeaps) (t size p : ℕ) → IsSound bs starts top l → t < length l.ranges.heaps → IsNoted l.ranges ranges t (event.Grant size p) → p + rounded size ≤ top
granted_inside bs starts top l ranges t size p s inside n =
    let fits = (event_fits top l.ranges ranges (spots_of l.region.items) l.rest.log.items (stands_of bs starts) s.stands t (event.Grant size p) n inside).0 in
    heap_inside top l.ranges (spots_of l.region.items) l.rest.log.items bs starts s.stands t size p inside fits

-- ---- a block that is given back

told_block : (o : Option Block) (info : BlockInfo) → Tells o info → (b : Block) × (o ≡ Some b) × (info.kind ≡ b.kind) × (info.live ≡ b.live)
told_block None info t = absurd t
told_block (Some b) info t = (b, refl, t.0, t.2)

-- the stand of a block that is told
pub told_stand : (bs : Blocks) (starts : List ℕ) (n : ℕ) (info : BlockInfo) → Tells (slice_get bs n) info → slice_get starts n ≡ Some info.at → info.live ≡ true → is_heap info.kind ≡ true
    → (x : Stand) × (slice_get (stands_of bs starts) n ≡ Some x) × (x.live ≡ true) × (is_heap x.kind ≡ true) × (info.at ≡ x.at)
told_stand bs starts n info t at alive heap =
    let b = told_block (slice_get bs n) info t in (
      stand_of b.0 info.at,
      stands_at bs starts n b.0 info.at b.1 at,
      sym b.3 ∙ alive,
      ap is_heap (sym b.2) ∙ heap,
      refl,
    )

-- its token is the one in whose range it lies
same_token : (size t u place : ℕ) → InRange size t place → InRange size u place → t ≡ u
same_token size t u place i j = ⊎_elim {C = t ≡ u}
    (λ (lt : t < u). absurd (one_range size t u place lt i j))
    (λ (le : u ≤ t). ⊎_elim {C = t ≡ u} (λ (lt : u < t). absurd (one_range size u t place lt j i)) (λ (ge : t ≤ u). omega (arith, le, ge)) (cases_lt u t))
    (cases_lt t u)

pub held_token : (top : ℕ) (all : AllHeaps) (spots : List Spot) (log : List LogEntry) (xs : List Stand) (n : ℕ) (x : Stand) (t at : ℕ) → Stands top all spots log xs → slice_get xs n ≡ Some x → x.live ≡ true → is_heap x.kind ≡ true
    → at ≡ x.at → InRange all.size t at → (live at (slice_index_or (histories all) t []) ≡ true) × WasGranted (slice_get log (maker_at log n xs)) t at
held_token top all spots log xs n x t at S e alive heap place i =
    let h = (S.placed n x e alive).heap heap in
    let w = held_within all log xs n x S.legal h in
    let r = rounded_some x.size in
    let j : InRange all.size h.token x.at = (w.0, let last = w.1 in omega (arith, last, r)) in
    let i2 : InRange all.size t x.at = subst (λ (p : ℕ). InRange all.size t p) place i in
    let same : h.token ≡ t = same_token all.size h.token t x.at j i2 in (
      ap (λ (p : ℕ). live p (slice_index_or (histories all) t [])) place ∙ ap (λ (u : ℕ). live x.at (slice_index_or (histories all) u [])) (sym same) ∙ ap (λ o. is_some o) h.live,
      subst (λ (p : ℕ). WasGranted (slice_get log (maker_at log n xs)) t p) (sym place) (subst (λ (u : ℕ). WasGranted (slice_get log (maker_at log n xs)) u x.at) same h.granted),
    )

pub maker_same : (bs : Blocks) (starts : List ℕ) (l : Ledger) (n : ℕ) → length starts ≡ length bs → maker (state_in bs l).world n ≡ maker_at l.rest.log.items n (stands_of bs starts)
maker_same bs starts l n long = ap (λ (k : ℕ). slice_index_or (state_in bs l).world.grants k 0) (heaps_same n bs starts long)

-- ---- the beginning of a new block

pub new_given : (given given_now : List ℕ) (size n : ℕ) → given_now ≡ given ++ size ∷ [] → n ≡ length given → IsGiven given_now (Object n 0)
new_given given given_now size n e h = let k : length given_now ≡ suc (length given) = ap (λ (l : List ℕ). length l) e ∙ length_more given size in (omega (arith, k, h), omega arith)
