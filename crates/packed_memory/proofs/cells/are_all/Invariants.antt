use Rattle.std.proofs.Common.{◌≡◌, take, replicate}
use Rattle.packed_memory.proofs.cells.are_all.Given as goal

abbrev pub invariant-loop-other : goal.invariant-loop-other
invariant-loop-other l = take l.other-index l.words ≡ replicate l.other-index l.word
