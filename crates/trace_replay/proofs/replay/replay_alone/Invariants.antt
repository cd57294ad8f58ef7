use Rattle.std.proofs.Common.{◌≡◌, ◌+◌, ◌≤◌, length, take}
use Rattle.range_heap.specs.Steps.{histories}
use Rattle.trace_replay.specs.Going.{Going}
use Rattle.trace_replay.proofs.replay.replay_alone.Given as goal

abbrev pub invariant-loop-at : goal.invariant-loop-at
invariant-loop-at l = record {
  size : l.ranges.size ≡ l.trace.size;
  room : length l.trace.events ≤ l.fates.room + l.at;
  going : Going l.trace.count l.trace.events (take l.at l.trace.events) l.fates.items (histories l.ranges);
}
