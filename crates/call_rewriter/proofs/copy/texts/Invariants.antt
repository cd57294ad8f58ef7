use Rattle.std.specs.Prelude.{◌≡◌, ◌++◌, drop}
use Rattle.call_rewriter.proofs.copy.texts.Given as goal

abbrev pub invariant-loop-x : goal.invariant-loop-x
invariant-loop-x l = l.copy ++ drop l.x-index l.x-items ≡ l.x-items
