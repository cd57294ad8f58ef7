-- A list of cells for each block.
use Rattle.std.specs.Prelude.{ℕ, ◌^◌, List, map}
use Rattle.c_core.specs.Blocks.{Block, Blocks}
use Rattle.block_memory.specs.Shape.{Stored, sizes_of, AreKept}
use Rattle.block_memory.specs.declared.cell_memory.CellBlock.{CellBlock}
use Rattle.block_memory.specs.declared.cell_memory.CellMemory.TheInside.{Inside}

abbrev pub block_of : CellBlock → Block
block_of b = record { kind = b.kind; size = b.size; live = b.live; cells = b.cells.items }

abbrev pub blocks_in : List CellBlock → Blocks
blocks_in bs = map block_of bs

abbrev pub starts_in : List CellBlock → List ℕ
starts_in bs = map (λ b. b.at) bs

abbrev pub stored_in : Inside → Stored
stored_in m = record { blocks = blocks_in m.blocks.items; starts = starts_in m.blocks.items; top = 2 ^ 62 }

abbrev pub IsSound : Inside → Type 0
IsSound m = AreKept (sizes_of (blocks_in m.blocks.items)) (blocks_in m.blocks.items)
