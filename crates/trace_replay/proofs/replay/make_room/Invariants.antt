use Rattle.std.proofs.Common.{◌≡◌}
use Rattle.range_heap.specs.Steps.{histories}
use Rattle.trace_replay.proofs.replay.make_room.Given as goal

abbrev pub invariant-loop-token : goal.invariant-loop-token
invariant-loop-token l = record {
  size : l.ranges.size ≡ l.initial.ranges.size;
  kept : histories l.ranges ≡ histories l.initial.ranges;
}
