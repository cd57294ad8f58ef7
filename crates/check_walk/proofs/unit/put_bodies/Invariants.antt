use Rattle.std.proofs.Common.{◌≡◌, ◌++◌, length}
use Rattle.check_walk.proofs.unit.put_bodies.Given as goal

abbrev pub invariant-loop-name : goal.invariant-loop-name
invariant-loop-name l = record l.whole { bodies = l.names ++ l.whole.bodies } ≡ record l.fn.whole { bodies = l.fn.names ++ l.fn.whole.bodies }

abbrev pub decreases-loop-name : goal.decreases-loop-name
decreases-loop-name l = length l.names
