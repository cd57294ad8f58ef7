-- What follows from the definitions alone.
use Rattle.std.specs.Prelude.{◌≡◌, ◌≢◌, ℕ, ◌<◌, ◌≤◌, ◌%◌, List, [], ◌∷◌, ◌++◌, length, slice_index_or}
use Rattle.range_heap.specs.declared.call.HeapCall.{HeapCall}
use Rattle.range_heap.specs.Blocks.{rounded, Block, live_blocks}
use Rattle.range_heap.specs.History.{Region, MayFollow, Legal}
use Rattle.range_heap.specs.Ranges.{AllLegal, StayApart}

-- `rounded` is the least positive multiple of 16 that is not below the size
pub record IsRounding : Type 0 where
  pub positive : (size : ℕ) → 0 < rounded size
  pub multiple : (size : ℕ) → rounded size % 16 ≡ 0
  pub not_below : (size : ℕ) → size ≤ rounded size
  pub least : (size other : ℕ) → 0 < other → other % 16 ≡ 0 → size ≤ other → rounded size ≤ other

-- the live blocks of a legal history begin at different places
abbrev pub StartsDiffer : Type 0
StartsDiffer = (r : Region) (h : List HeapCall) → Legal r h → (i j : ℕ) (d : Block) → i < j → j < length (live_blocks h) → (slice_index_or (live_blocks h) i d).place ≢ (slice_index_or (live_blocks h) j d).place

-- histories that are legal in their ranges stay apart
abbrev pub RangesApart : Type 0
RangesApart = (size : ℕ) (hs : List (List HeapCall)) → AllLegal size hs → StayApart hs

-- how legal histories grow: an entry that may follow one makes a longer one, the last entry of one may follow those
-- in front of it, and each front of one is legal
pub record HistoriesGrow : Type 0 where
  pub entry : (r : Region) (h : List HeapCall) (e : HeapCall) → Legal r h → MayFollow r h e.what → Legal r (h ++ e ∷ [])
  pub last : (r : Region) (h : List HeapCall) (e : HeapCall) → Legal r (h ++ e ∷ []) → MayFollow r h e.what
  pub front : (r : Region) (h more : List HeapCall) → Legal r (h ++ more) → Legal r h
