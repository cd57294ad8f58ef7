use Rattle.std.proofs.Common.{◌≡◌, replicate, vec_capacity}
use Rattle.hole_list.proofs.tags.zeros.Given as goal

abbrev pub invariant-loop-at : goal.invariant-loop-at
invariant-loop-at l = (l.list.items ≡ replicate l._at 0) × (vec_capacity l.list ≡ l.count)
