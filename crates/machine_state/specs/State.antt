-- What of a run the memory and what is kept beside it are, and what holds of both.
use Rattle.std.specs.Prelude.{◌≡◌, ℕ, ◌+◌, ◌<◌, ◌≤◌, ◌^◌, List, [], ◌∷◌, ◌++◌, length, take, Option, Some, None, slice_get}
use Rattle.c_core.specs.Blocks.{Blocks}
use Rattle.c_meaning.specs.World.{State}
use Rattle.c_meaning.specs.Meaning.{Tokens}
use Rattle.range_heap.specs.History.{Region}
use Rattle.range_heap.specs.Seen.{AllHeaps}
use Rattle.c_meaning.specs.Log.{ranges_of}
use Rattle.machine_frames.specs.Views.{state_of, topmost_first}
use Rattle.machine_state.specs.declared.ledger.Spot.{Spot}
use Rattle.machine_state.specs.declared.ledger.Ledger.{Ledger}
use Rattle.machine_state.specs.Stands.{Stands, stands_of}

-- the state of the run
abbrev pub state_in : Blocks → Ledger → State
state_in bs l = state_of bs l.rest

-- the objects of the region, the topmost first
abbrev pub spots_of : List Spot → List Spot
spots_of spots = topmost_first (λ s. s) [] spots

-- a local's block was given
abbrev pub IsLocal : (count : ℕ) → Option ℕ → Type 0
IsLocal count None = Unit {0}
IsLocal count (Some n) = n < count

abbrev pub AreLocals : (count : ℕ) → List (Option ℕ) → Type 0
AreLocals count [] = Unit {0}
AreLocals count (x ∷ locals) = IsLocal count x × AreLocals count locals

-- what holds between steps
pub record IsSound (bs : Blocks) (starts : List ℕ) (top : ℕ) (l : Ledger) : Type 0 where
  pub stands : Stands top l.ranges (spots_of l.region.items) l.rest.log.items (stands_of bs starts)
  pub long : length starts ≡ length bs
  pub count : l.count ≡ length bs
  pub room : l.rest.room ≤ 4194304
  pub locals : AreLocals (length bs) l.rest.locals.items
  pub base : l.rest.base ≤ length l.rest.locals.items
  pub read : l.rest.read ≤ length l.rest.input.items

-- the sizes of the blocks when more were made
abbrev pub AreMore : (old new : List ℕ) → Type 0
AreMore old new = (more : List ℕ) × (new ≡ old ++ more)

-- the ranges of the tokens
abbrev pub regions : AllHeaps → ℕ → Region
regions all = ranges_of (length all.heaps) all.size

-- the same ranges, whatever was asked of them
abbrev pub SameRanges : (old new : AllHeaps) → Type 0
SameRanges old new = (new.size ≡ old.size) × (length new.heaps ≡ length old.heaps)

-- what making blocks and asking for them leaves as it was
pub record Keeps (given : List ℕ) (l : Ledger) (given_now : List ℕ) (now : Ledger) : Type 0 where
  pub sizes : AreMore given given_now
  pub base : now.rest.base ≡ l.rest.base
  pub saved : take now.rest.base now.rest.locals.items ≡ take l.rest.base l.rest.locals.items
  pub ranges : SameRanges l.ranges now.ranges
  pub fallback : now.fallback ≡ l.fallback
