use Rattle.std.proofs.Common.{ℕ, ◌+◌, ◌<◌, slice_index_or}
use Rattle.hole_list.specs.declared.gap.Hole.{Hole}
use Rattle.hole_list.proofs.list.first_reaching.Given as goal

abbrev pub invariant-loop-i : goal.invariant-loop-i
invariant-loop-i l = (k : ℕ) (d : Hole) → k < l.i → (slice_index_or l.holes k d).start + (slice_index_or l.holes k d).len < l.start
