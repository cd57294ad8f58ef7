use Rattle.std.proofs.Common.{drop}
use Rattle.range_heap.specs.Plain.{AllPass}
use Rattle.range_heap.proofs.plain.is_clear.Given as goal

abbrev pub invariant-loop-i : goal.invariant-loop-i
invariant-loop-i l = AllPass l.place l.len (drop l.i l.history) → AllPass l.place l.len l.history
