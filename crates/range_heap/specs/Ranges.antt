-- The addresses of the ranges, their halves, and what keeps apart.
use Rattle.std.specs.Prelude.{◌≡◌, ◌⊎◌, ℕ, ◌+◌, ◌*◌, ◌/◌, ◌%◌, ◌<◌, ◌≤◌, cond, nat_lt, List, [], ◌∷◌, ◌++◌, length, slice_index_or, Option, Some, None}
use Rattle.range_heap.specs.declared.call.HeapCall.{HeapCall}
use Rattle.range_heap.specs.declared.call.HeapEvent.{HeapEvent}
use Rattle.range_heap.specs.declared.call.HeapEvent.TheVariants.{Grant, Refuse, Release}
use Rattle.range_heap.specs.declared.half.Half.{Half}
use Rattle.range_heap.specs.declared.half.Half.TheVariants.{Lower, Upper}
use Rattle.range_heap.specs.Blocks.{rounded, Block, live_blocks, AllApart}
use Rattle.range_heap.specs.History.{Region, region, Legal}
use Rattle.range_heap.specs.Seen.{Kept}

-- the first address of range t, where each range has `size` addresses
abbrev pub range_first : ℕ → ℕ → ℕ
range_first size t = 16777216 + t * size

abbrev pub range_at : ℕ → ℕ → Region
range_at size t = region (range_first size t) size

abbrev pub InRange : ℕ → ℕ → ℕ → Type 0
InRange size t address = (range_first size t ≤ address) × (address < range_first size t + size)

-- the half of a token: of `count` tokens the first count / 2 are the lower half, and as many more the
-- upper one. With an odd count the last token is in neither
abbrev pub half_of : ℕ → ℕ → Option Half
half_of count token = cond (nat_lt token (count / 2)) (Some Lower) (cond (nat_lt token (2 * (count / 2))) (Some Upper) None)

-- each range's history is legal there
abbrev pub AllLegal : ℕ → List (List HeapCall) → Type 0
AllLegal size hs = (t : ℕ) → t < length hs → Legal (range_at size t) (slice_index_or hs t [])

-- the live blocks of all ranges
abbrev pub all_blocks : List (List HeapCall) → List Block
all_blocks [] = []
all_blocks (h ∷ hs) = live_blocks h ++ all_blocks hs

-- an event grants a block that has this address
abbrev pub Grants : HeapEvent → ℕ → Type 0
Grants (Grant size place) address = (place ≤ address) × (address < place + rounded size)
Grants (Refuse size) address = ⊥
Grants (Release place) address = ⊥

-- some block that was ever granted has this address
abbrev pub EverGranted : List HeapCall → ℕ → Type 0
EverGranted [] address = ⊥
EverGranted (e ∷ es) address = Grants e.what address ⊎ EverGranted es address

-- the storage of a half
abbrev pub InStorage : List (List HeapCall) → Half → ℕ → Type 0
InStorage hs half address = (t : ℕ) × (half_of (length hs) t ≡ Some half) × EverGranted (slice_index_or hs t []) address

-- no two live blocks meet, and no address was ever in blocks of both halves
pub record StayApart (hs : List (List HeapCall)) : Type 0 where
  pub blocks : AllApart (all_blocks hs)
  pub halves : (address : ℕ) → InStorage hs Lower address → ¬ InStorage hs Upper address

-- each heap stands in its range, and its history is legal there
pub record Standing (size : ℕ) (heaps : List Kept) : Type 0 where
  pub multiple : size % 16 ≡ 0
  pub least : 16 ≤ size
  pub most : size ≤ 1048576
  pub some : 0 < length heaps
  pub count : length heaps ≤ 256
  pub firsts : (t : ℕ) (d : Kept) → t < length heaps → (slice_index_or heaps t d).first ≡ range_first size t
  pub sizes : (t : ℕ) (d : Kept) → t < length heaps → (slice_index_or heaps t d).size ≡ size
  pub legal : (t : ℕ) (d : Kept) → t < length heaps → Legal (range_at size t) (slice_index_or heaps t d).history
