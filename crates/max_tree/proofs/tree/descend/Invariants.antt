use Rattle.max_tree.proofs.Above.{At}
use Rattle.max_tree.proofs.tree.descend.Given as goal

abbrev pub invariant-loop-level : goal.invariant-loop-level
invariant-loop-level l = At l.leaves l.levels l._level l.node l.least l.nodes
