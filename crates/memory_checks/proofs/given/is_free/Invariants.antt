use Rattle.std.proofs.Common.{take}
use Rattle.block_memory.specs.Rooms.{IsFree}
use Rattle.memory_checks.proofs.given.is_free.Given as goal

abbrev pub invariant-loop-number : goal.invariant-loop-number
invariant-loop-number g l = IsFree (take l.number (g.M.Memory.blocks l.memory)) (take l.number (g.M.Memory.starts l.memory)) l.at l.more
