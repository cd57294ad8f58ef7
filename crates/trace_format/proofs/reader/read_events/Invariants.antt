use Rattle.std.proofs.Common.{◌≡◌, ◌+◌, ◌≤◌, [], length}
use Rattle.trace_format.specs.Lines.{lines}
use Rattle.trace_format.specs.Reading.{events_from}
use Rattle.trace_format.specs.Noted.{Noted}
use Rattle.trace_format.specs.WellFormed.{AllFit}
use Rattle.trace_format.proofs.reader.read_events.Given as goal

abbrev pub invariant-loop-line : goal.invariant-loop-line
invariant-loop-line l = record {
  same : events_from l.count l.workers 5 [] (lines l.fn.text) ≡ events_from l.count l.workers l.number l.notes.events (lines l.rest);
  noted : Noted l.notes.freed l.notes.events;
  fit : AllFit l.count l.workers [] l.notes.events;
  few : length l.notes.events + 5 ≡ l.number;
  small : length l.notes.freed + 5 ≤ l.number;
  limit : l.number ≤ 1000005;
}

abbrev pub decreases-loop-line : goal.decreases-loop-line
decreases-loop-line l = length l.rest
