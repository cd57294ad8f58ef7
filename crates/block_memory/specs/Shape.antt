-- What holds of the blocks of a memory, and what is seen of one.
use Rattle.std.specs.Prelude.{◌≡◌, ℕ, ◌+◌, ◌<◌, Bool, true, not, ◌&&◌, ◌==◌, nat_lt, if◌then◌else◌, ◌%◌, List, [], ◌∷◌, map, length, Option, Some, None, Result, Ok, Err}
use Rattle.c_core.specs.declared.values.BlockKind.{BlockKind}
use Rattle.c_core.specs.declared.values.Fault.{Fault}
use Rattle.c_core.specs.declared.values.Fault.TheVariants.{Dead, Bounds, Misaligned, ReadOnly}
use Rattle.c_core.specs.Blocks.{Block, Blocks, Site, is_read_only}
use Rattle.block_memory.specs.Given.{AreGiven}
use Rattle.block_memory.specs.declared.memory.BlockInfo.{BlockInfo}
use Rattle.block_memory.specs.declared.access.Place.{Place}

-- the blocks of a memory, where each starts, and the end of its addresses
pub record Stored : Type 0 where
  pub blocks : Blocks
  pub starts : List ℕ
  pub top : ℕ

-- how large each block is
abbrev pub sizes_of : Blocks → List ℕ
sizes_of bs = map (λ b. b.size) bs

-- what is told of a block
abbrev pub Tells : Option Block → BlockInfo → Type 0
Tells None info = ⊥
Tells (Some b) info = (info.kind ≡ b.kind) × (info.size ≡ b.size) × (info.live ≡ b.live)

-- a live block has as many cells as its size, a dead one has none, and the pointers in them are into blocks
abbrev pub IsKept : (sizes : List ℕ) → Block → Type 0
IsKept sizes b = (length b.cells ≡ (if b.live then b.size else 0)) × AreGiven sizes b.cells

abbrev pub AreKept : (sizes : List ℕ) → Blocks → Type 0
AreKept sizes [] = Unit {0}
AreKept sizes (b ∷ bs) = IsKept sizes b × AreKept sizes bs

-- the first fault of an access to a block that is told
abbrev pub tested : BlockInfo → (offset count align : ℕ) → (writes : Bool) → Result (Unit {0}) Fault
tested b offset count align writes =
    if not b.live then Err Dead
    else (if nat_lt b.size (offset + count) then Err Bounds
    else (if not (offset % align == 0) then Err Misaligned
    else (if writes && is_read_only b.kind then Err ReadOnly
    else Ok tt)))

-- a place without its block
abbrev pub place_of : Result Site Fault → Result Place Fault
place_of (Err fault) = Err fault
place_of (Ok site) = Ok (record { number = site.number; offset = site.offset })

-- two places of `count` bytes in one block have a byte in common
abbrev pub are_over : Place → Place → ℕ → Bool
are_over a b count = (a.number == b.number) && nat_lt a.offset (b.offset + count) && nat_lt b.offset (a.offset + count)
