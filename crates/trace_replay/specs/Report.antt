-- The report of histories.
use Rattle.std.specs.Prelude.{◌≡◌, zero, suc, ℕ, ◌+◌, ◌-◌, ◌*◌, ◌/◌, ◌%◌, ◌^◌, ◌<◌, ◌≤◌, Bool, false, ◌||◌, ◌&&◌, nat_lt, leb, cond, codes, decimal, List, [], ◌∷◌, ◌++◌, length, take, drop, slice_index_or}
use Rattle.token_modes.specs.declared.mode.Mode.{Mode}
use Rattle.token_modes.specs.declared.mode.Mode.TheVariants.{Increment, Random, TypeHash, Split}
use Rattle.range_heap.specs.declared.call.HeapCall.{HeapCall}
use Rattle.range_heap.specs.declared.call.HeapEvent.{HeapEvent}
use Rattle.range_heap.specs.declared.call.HeapEvent.TheVariants.{Grant, Refuse, Release}
use Rattle.range_heap.specs.Blocks.{rounded, Block, live_blocks}
use Rattle.range_heap.specs.History.{region, Legal}
use Rattle.trace_replay.specs.declared.histories.Histories.{Histories}
use Rattle.trace_replay.specs.declared.counts.Sort.{Sort}
use Rattle.trace_replay.specs.declared.counts.Sort.TheVariants.{Grants, Refusals, Releases}

-- ---- the entries

-- an event in the range that begins at `first`: a grant, a refusal or a release
abbrev pub event_text : ℕ → HeapEvent → List ℕ
event_text first (Grant size place) = codes " + " ++ decimal size ++ 32 ∷ [] ++ decimal (place - first) ++ 10 ∷ []
event_text first (Refuse size) = codes " ! " ++ decimal size ++ 10 ∷ []
event_text first (Release place) = codes " - " ++ decimal (place - first) ++ 10 ∷ []

-- an entry: the caller's number, and the event
abbrev pub entry_line : ℕ → HeapCall → List ℕ
entry_line first e = decimal e.who ++ event_text first e.what

abbrev pub entry_lines : ℕ → List HeapCall → List ℕ
entry_lines first [] = []
entry_lines first (e ∷ es) = entry_line first e ++ entry_lines first es

-- the range of number t, which begins at `first`
abbrev pub one_range : ℕ → ℕ → List HeapCall → List ℕ
one_range t first h = codes "range " ++ decimal t ++ 10 ∷ [] ++ entry_lines first h

-- the ranges from number t on, of which the first begins at `first`
abbrev pub range_lines : ℕ → ℕ → ℕ → List (List HeapCall) → List ℕ
range_lines size t first [] = []
range_lines size t first (h ∷ hs) = one_range t first h ++ range_lines size (t + 1) (first + size) hs

-- ---- the totals

abbrev pub is_of : Sort → HeapEvent → ℕ
is_of Grants (Grant size place) = 1
is_of Grants (Refuse size) = 0
is_of Grants (Release place) = 0
is_of Refusals (Grant size place) = 0
is_of Refusals (Refuse size) = 1
is_of Refusals (Release place) = 0
is_of Releases (Grant size place) = 0
is_of Releases (Refuse size) = 0
is_of Releases (Release place) = 1

abbrev pub how_many : Sort → List HeapCall → ℕ
how_many sort [] = 0
how_many sort (e ∷ es) = is_of sort e.what + how_many sort es

-- the sum over all ranges
abbrev pub over_all : (List HeapCall → ℕ) → List (List HeapCall) → ℕ
over_all f [] = 0
over_all f (h ∷ hs) = f h + over_all f hs

abbrev pub block_bytes : List Block → ℕ
block_bytes [] = 0
block_bytes (b ∷ bs) = rounded b.size + block_bytes bs

-- the bytes of live storage
abbrev pub live_bytes : List HeapCall → ℕ
live_bytes h = block_bytes (live_blocks h)

abbrev pub total_line : List (List HeapCall) → List ℕ
total_line hs = codes "total " ++ decimal (over_all (how_many Grants) hs) ++ 32 ∷ [] ++ decimal (over_all (how_many Refusals) hs) ++ 32 ∷ [] ++ decimal (over_all (how_many Releases) hs) ++ 32 ∷ [] ++ decimal (over_all live_bytes hs) ++ 10 ∷ []

-- ---- the halves

-- whether an event grants a block that has this address
abbrev pub grants_address : ℕ → HeapEvent → Bool
grants_address a (Grant size place) = leb place a && nat_lt a (place + rounded size)
grants_address a (Refuse size) = false
grants_address a (Release place) = false

abbrev pub ever_granted : ℕ → List HeapCall → Bool
ever_granted a [] = false
ever_granted a (e ∷ es) = grants_address a e.what || ever_granted a es

-- how many numbers below n pass a test
unfoldable pub count_below : (ℕ → Bool) → ℕ → ℕ
count_below f zero = 0
count_below f (suc n) = cond (f n) 1 0 + count_below f n

-- how many of the addresses below n were ever granted
abbrev pub granted_below : ℕ → List HeapCall → ℕ
granted_below n h = count_below (λ a. ever_granted a h) n

-- how many addresses were ever granted in ranges of which the first begins at `first`
abbrev pub granted_bytes : ℕ → ℕ → List (List HeapCall) → ℕ
granted_bytes size first [] = 0
granted_bytes size first (h ∷ hs) = granted_below (first + size) h + granted_bytes size (first + size) hs

-- of all ranges the first half, and as many behind them
abbrev pub halves_line : ℕ → ℕ → List (List HeapCall) → List ℕ
halves_line first size hs =
    let half = length hs / 2 in
    codes "halves " ++ decimal (granted_bytes size first (take half hs)) ++ 32 ∷ [] ++ decimal (granted_bytes size (first + half * size) (take half (drop half hs))) ++ 10 ∷ []

abbrev pub halves_lines : Mode → ℕ → ℕ → List (List HeapCall) → List ℕ
halves_lines Increment first size hs = []
halves_lines Random first size hs = []
halves_lines TypeHash first size hs = []
halves_lines Split first size hs = cond (nat_lt (length hs) 2) [] (halves_line first size hs)

abbrev pub report : Histories → List ℕ
report h = range_lines h.size 0 h.first h.ranges ++ total_line h.ranges ++ halves_lines h.mode h.first h.size h.ranges

-- ---- what can be reported

-- each history is legal in its range, of which the first begins at `first`
abbrev pub RangesLegal : ℕ → ℕ → List (List HeapCall) → Type 0
RangesLegal size first hs = (t : ℕ) → t < length hs → Legal (region (first + t * size) size) (slice_index_or hs t [])

-- 1 to 256 ranges, each with a legal history
pub record Reportable (h : Histories) : Type 0 where
  pub first_below : h.first < 2 ^ 62
  pub multiple : h.size % 16 ≡ 0
  pub least : 16 ≤ h.size
  pub most : h.size ≤ 1048576
  pub some : 1 ≤ length h.ranges
  pub count : length h.ranges ≤ 256
  pub legal : RangesLegal h.size h.first h.ranges
