-- One row of cells, in which each live block has its own.
use Rattle.std.specs.Prelude.{◌≡◌, ℕ, ◌+◌, ◌<◌, ◌≤◌, ◌^◌, true, if◌then◌else◌, List, [], ◌∷◌, map, take, drop, length}
use Rattle.c_core.specs.declared.values.Cell.{Cell}
use Rattle.c_core.specs.Blocks.{Block, Blocks}
use Rattle.block_memory.specs.Rooms.{room, AreApart}
use Rattle.block_memory.specs.Shape.{Stored, sizes_of, AreKept}
use Rattle.packed_memory.specs.declared.memory.PackedBlock.{PackedBlock}
use Rattle.packed_memory.specs.declared.memory.PackedMemory.TheInside.{Inside}

abbrev pub block_over : List Cell → PackedBlock → Block
block_over row e = record { kind = e.kind; size = e.size; live = e.live; cells = (if e.live then take e.size (drop e.at row) else []) }

abbrev pub blocks_over : List Cell → List PackedBlock → Blocks
blocks_over row es = map (block_over row) es

abbrev pub starts_over : List PackedBlock → List ℕ
starts_over es = map (λ e. e.at) es

-- an interval of addresses meets no live block
abbrev pub IsClear : (at count : ℕ) → List PackedBlock → Type 0
IsClear at count [] = Unit {0}
IsClear at count (e ∷ es) = (e.live ≡ true → AreApart e.at (room e.kind e.size) at count) × IsClear at count es

-- no two live blocks meet
abbrev pub AreClear : List PackedBlock → Type 0
AreClear [] = Unit {0}
AreClear (e ∷ es) = (e.live ≡ true → IsClear e.at (room e.kind e.size) es) × AreClear es

-- each block ends at the end of the addresses, or before it
abbrev pub AreInside : (top : ℕ) → List PackedBlock → Type 0
AreInside top [] = Unit {0}
AreInside top (e ∷ es) = (e.at + e.size ≤ top) × AreInside top es

abbrev pub stored_over : Inside → Stored
stored_over m = record { blocks = blocks_over m.cells m.blocks.items; starts = starts_over m.blocks.items; top = length m.cells }

pub record IsPacked (m : Inside) : Type 0 where
  pub small : length m.cells < 2 ^ 30
  pub inside : AreInside (length m.cells) m.blocks.items
  pub clear : AreClear m.blocks.items
  pub kept : AreKept (sizes_of (blocks_over m.cells m.blocks.items)) (blocks_over m.cells m.blocks.items)
