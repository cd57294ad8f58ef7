use Rattle.std.proofs.Common.{◌≡◌, ℕ, ◌<◌, [], length, slice_index_or, vec_capacity}
use Rattle.range_heap.specs.Seen.{Kept}
use Rattle.range_heap.specs.Ranges.{range_first}
use Rattle.range_heap.proofs.ranges.Ranges.new.Given as goal

abbrev pub invariant-loop-token : goal.invariant-loop-token
invariant-loop-token l =
    (length l.heaps.items ≡ l.token) × (vec_capacity l.heaps ≡ l.count) × ((t : ℕ) (d : Kept) → t < l.token → (slice_index_or l.heaps.items t d).first ≡ range_first l.size t) × ((t : ℕ) (d : Kept) → t < l.token → (slice_index_or l.heaps.items t d).size ≡ l.size) × ((t : ℕ) (d : Kept) → t < l.token → (slice_index_or l.heaps.items t d).history ≡ [])
