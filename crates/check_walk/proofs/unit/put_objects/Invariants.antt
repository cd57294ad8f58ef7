use Rattle.std.proofs.Common.{◌≡◌, ◌++◌, length}
use Rattle.check_walk.proofs.unit.put_objects.Given as goal

abbrev pub invariant-loop-name : goal.invariant-loop-name
invariant-loop-name l = record l.whole { objects = l.names ++ l.whole.objects } ≡ record l.fn.whole { objects = l.fn.names ++ l.fn.whole.objects }

abbrev pub decreases-loop-name : goal.decreases-loop-name
decreases-loop-name l = length l.names
