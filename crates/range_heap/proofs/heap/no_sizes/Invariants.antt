use Rattle.std.proofs.Common.{◌≡◌, replicate, None, vec_capacity}
use Rattle.range_heap.proofs.heap.no_sizes.Given as goal

abbrev pub invariant-loop-unit : goal.invariant-loop-unit
invariant-loop-unit l = (l.sizes.items ≡ replicate l._unit None) × (vec_capacity l.sizes ≡ l.units)
