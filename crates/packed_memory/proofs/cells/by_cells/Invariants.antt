use Rattle.std.proofs.Common.{◌≡◌, length, take}
use Rattle.packed_memory.specs.Packed.{cells_in}
use Rattle.packed_memory.proofs.cells.by_cells.Given as goal

abbrev pub invariant-loop-i : goal.invariant-loop-i
invariant-loop-i l = (length l.cells ≡ 8) × (take l.i l.cells ≡ take l.i (cells_in l.bytes l.words))
