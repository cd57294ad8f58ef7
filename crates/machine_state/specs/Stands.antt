-- Where the blocks of a run stand: those that are no allocated ones below the ranges, each of them under the end of an
-- object that the region of objects holds, and each allocated one where its entry of the log granted it.
use Rattle.std.specs.Prelude.{◌≡◌, ◌⊎◌, ℕ, zero, suc, ◌+◌, ◌*◌, ◌<◌, ◌≤◌, ◌^◌, Bool, true, false, if◌then◌else◌, List, [], ◌∷◌, length, Some, slice_get, slice_index_or}
use Rattle.c_core.specs.declared.values.BlockKind.{BlockKind}
use Rattle.c_core.specs.Blocks.{Block, Blocks}
use Rattle.c_meaning.specs.declared.log.LogEntry.{LogEntry}
use Rattle.c_meaning.specs.Log.{by_token, WasGranted}
use Rattle.c_meaning.specs.World.{is_heap}
use Rattle.range_heap.specs.Blocks.{live_at}
use Rattle.range_heap.specs.Ranges.{AllLegal}
use Rattle.range_heap.specs.Seen.{AllHeaps}
use Rattle.range_heap.specs.Steps.{histories}
use Rattle.block_memory.specs.Rooms.{room}
use Rattle.machine_frames.specs.Views.{grants_from}
use Rattle.machine_state.specs.declared.ledger.Spot.{Spot}

-- a block without its cells, and where it starts
pub record Stand : Type 0 where
  pub kind : BlockKind
  pub size : ℕ
  pub live : Bool
  pub at : ℕ

abbrev pub stand_of : Block → ℕ → Stand
stand_of b at = record { kind = b.kind; size = b.size; live = b.live; at = at }

abbrev pub stands_of : Blocks → (starts : List ℕ) → List Stand
stands_of [] starts = []
stands_of (b ∷ bs) [] = []
stands_of (b ∷ bs) (s ∷ starts) = stand_of b s ∷ stands_of bs starts

-- its life ends
abbrev pub ended : Stand → Stand
ended x = record x { live = false }

abbrev pub ended_at : ℕ → List Stand → List Stand
ended_at n [] = []
ended_at zero (x ∷ xs) = ended x ∷ xs
ended_at (suc n) (x ∷ xs) = x ∷ ended_at n xs

-- how many of the first blocks are allocated ones
abbrev pub heaps_at : ℕ → List Stand → ℕ
heaps_at zero xs = 0
heaps_at (suc n) [] = 0
heaps_at (suc n) (x ∷ xs) = (if is_heap x.kind then 1 else 0) + heaps_at n xs

-- the entry of the log that granted an allocated block
abbrev pub maker_at : List LogEntry → (block : ℕ) → List Stand → ℕ
maker_at log n xs = slice_index_or (grants_from 0 log) (heaps_at n xs) 0

-- a block ends under the object with its number, and under those above it; the topmost object is the first
abbrev pub Under : List Spot → (number end : ℕ) → Type 0
Under [] n end = ⊥
Under (s ∷ spots) n end = (end ≤ s.end) × ((n ≡ s.number) ⊎ Under spots n end)

-- each object of the region ends below the ranges
abbrev pub AreLow : (count : ℕ) → List Spot → Type 0
AreLow count [] = Unit {0}
AreLow count (s ∷ spots) = (s.end ≤ 16777216) × (s.number < count) × AreLow count spots

-- where the region's next object begins
abbrev pub end_of : List Spot → ℕ
end_of [] = 0
end_of (s ∷ spots) = s.end

-- an allocated block stands where its entry granted it, and lives there
pub record Held (all : AllHeaps) (log : List LogEntry) (xs : List Stand) (n : ℕ) (x : Stand) : Type 0 where
  pub token : ℕ
  pub inside : token < length all.heaps
  pub granted : WasGranted (slice_get log (maker_at log n xs)) token x.at
  pub live : live_at x.at (slice_index_or (histories all) token []) ≡ Some x.size

pub record Placed (all : AllHeaps) (spots : List Spot) (log : List LogEntry) (xs : List Stand) (n : ℕ) (x : Stand) : Type 0 where
  pub heap : is_heap x.kind ≡ true → Held all log xs n x
  pub other : is_heap x.kind ≡ false → 0 < room x.kind x.size → Under spots n (x.at + room x.kind x.size)

-- what holds of all of them
pub record Stands (top : ℕ) (all : AllHeaps) (spots : List Spot) (log : List LogEntry) (xs : List Stand) : Type 0 where
  pub high : 16777216 + length all.heaps * all.size ≤ top
  pub legal : AllLegal all.size (histories all)
  pub logged : (t : ℕ) → t < length all.heaps → by_token log t ≡ slice_index_or (histories all) t []
  pub counted : length (grants_from 0 log) ≡ heaps_at (length xs) xs
  pub low : AreLow (length xs) spots
  pub small : (n : ℕ) (x : Stand) → slice_get xs n ≡ Some x → x.size < 2 ^ 32
  pub placed : (n : ℕ) (x : Stand) → slice_get xs n ≡ Some x → x.live ≡ true → Placed all spots log xs n x
  -- no two live allocated blocks stand at one place
  pub differ : (n m : ℕ) (x y : Stand) → slice_get xs n ≡ Some x → slice_get xs m ≡ Some y → x.live ≡ true → y.live ≡ true
      → is_heap x.kind ≡ true → is_heap y.kind ≡ true → x.at ≡ y.at → n ≡ m
