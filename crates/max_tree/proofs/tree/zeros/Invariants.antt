use Rattle.std.proofs.Common.{◌≡◌, replicate, vec_capacity}
use Rattle.max_tree.proofs.tree.zeros.Given as goal

abbrev pub invariant-loop-node : goal.invariant-loop-node
invariant-loop-node l = (l.nodes.items ≡ replicate l._node 0) × (vec_capacity l.nodes ≡ l.count)
