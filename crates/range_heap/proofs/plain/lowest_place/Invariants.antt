use Rattle.std.proofs.Common.{ℕ, ◌+◌, ◌*◌, ◌<◌}
use Rattle.range_heap.specs.History.{region, FitsAt}
use Rattle.range_heap.proofs.plain.lowest_place.Given as goal

abbrev pub invariant-loop-unit : goal.invariant-loop-unit
invariant-loop-unit l = (below : ℕ) → below < l.first + 16 * l.unit → FitsAt (region l.first l.size) l.history l.asked 16 below → ⊥
