use Rattle.std.proofs.Common.{◌≡◌, ◌≢◌, ℕ, ◌+◌, ◌*◌, ◌/◌, ◌<◌, ◌≤◌, max, length, drop, set, get_or}
use Rattle.max_tree.proofs.tree.put.Given as goal

-- all nodes but the parent of the one that was changed last are as they have to be
abbrev pub invariant-loop-node : goal.invariant-loop-node
invariant-loop-node l = record {
  some : 1 ≤ l.node;
  within : l.node < 2 * l.leaves;
  rest : (q : ℕ) → 1 ≤ q → q < l.leaves → q ≢ l.node / 2 → get_or l.nodes q 0 ≡ max (get_or l.nodes (2 * q) 0) (get_or l.nodes (2 * q + 1) 0);
  row : drop l.leaves l.nodes ≡ set (drop l.leaves l.fn.nodes) l.at l.value;
}

abbrev pub decreases-loop-node : goal.decreases-loop-node
decreases-loop-node l = l.node
