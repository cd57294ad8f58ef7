use Rattle.std.proofs.Common.{length}
use Rattle.block_memory.proofs.scalar.+same_cells.Given as goal

abbrev pub decreases-same_cells : goal.decreases-same_cells
decreases-same_cells l = length l.cells.now
