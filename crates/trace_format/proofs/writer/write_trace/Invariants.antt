use Rattle.std.proofs.Common.{◌≡◌, ◌++◌, drop}
use Rattle.trace_format.specs.Text.{events_text, trace_text}
use Rattle.trace_format.proofs.writer.write_trace.Given as goal

abbrev pub invariant-loop-event : goal.invariant-loop-event
invariant-loop-event l = l.text.items ++ events_text (drop l.event-index l.trace.events) ≡ trace_text l.trace
