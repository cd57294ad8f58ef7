use Rattle.std.proofs.Common.{◌≡◌, take}
use Rattle.range_heap.specs.Steps.{histories, MadeAll}
use Rattle.range_heap.proofs.ranges.Ranges.make_all.Given as goal

abbrev pub invariant-loop-call : goal.invariant-loop-call
invariant-loop-call l = (l.self.size ≡ l.initial.self.size) × MadeAll (take l.call-index l.calls) (histories l.initial.self) (histories l.self)
