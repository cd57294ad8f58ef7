use Rattle.std.proofs.Common.{◌≡◌, drop}
use Rattle.range_heap.specs.Plain.{released}
use Rattle.range_heap.proofs.plain.is_released.Given as goal

abbrev pub invariant-loop-call : goal.invariant-loop-call
invariant-loop-call l = released l.place l.calls ≡ released l.place (drop l.call-index l.calls)
