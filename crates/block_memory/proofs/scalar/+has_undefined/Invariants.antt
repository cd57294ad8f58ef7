use Rattle.std.proofs.Common.{length}
use Rattle.block_memory.proofs.scalar.+has_undefined.Given as goal

abbrev pub decreases-has_undefined : goal.decreases-has_undefined
decreases-has_undefined l = length l.cells.now
