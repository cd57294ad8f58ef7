-- What follows from the definitions alone.
use Rattle.std.specs.Prelude.{◌≡◌, ◌^◌, ◌<◌, List, [], ◌∷◌, length}
use Rattle.range_heap.specs.declared.call.HeapCall.{HeapCall}
use Rattle.range_heap.specs.declared.call.HeapEvent.{HeapEvent}
use Rattle.range_heap.specs.declared.call.HeapEvent.TheVariants.{Grant, Refuse, Release}
use Rattle.trace_format.specs.WellFormed.{WellFormed}
use Rattle.trace_format.specs.declared.trace.Trace.{Trace}
use Rattle.trace_replay.specs.Due.{Alone}
use Rattle.trace_replay.specs.Report.{report, Reportable}
use Rattle.trace_replay.specs.declared.histories.Histories.{Histories}

-- the numbers of an event, of a history and of all histories are values of their types
abbrev pub EventFits : HeapEvent → Type 0
EventFits (Grant size place) = (size < 2 ^ 128) × (place < 2 ^ 64)
EventFits (Refuse size) = size < 2 ^ 128
EventFits (Release place) = place < 2 ^ 64

abbrev pub CallsFit : List HeapCall → Type 0
CallsFit [] = Unit {0}
CallsFit (e ∷ es) = (e.who < 2 ^ 32) × EventFits e.what × CallsFit es

abbrev pub RangesFit : List (List HeapCall) → Type 0
RangesFit [] = Unit {0}
RangesFit (h ∷ hs) = CallsFit h × RangesFit hs

-- the number and size of the ranges, the mode and the first address are the same
pub record SameFrame (h k : Histories) : Type 0 where
  pub first : h.first ≡ k.first
  pub size : h.size ≡ k.size
  pub mode : h.mode ≡ k.mode
  pub count : length h.ranges ≡ length k.ranges

-- with these known, a report determines its histories
abbrev pub Determines : Type 0
Determines = (h k : Histories) → Reportable h → Reportable k → RangesFit h.ranges → RangesFit k.ranges → SameFrame h k → report h ≡ report k → h ≡ k

-- no other histories are a trace's events alone
abbrev pub OneReplay : Type 0
OneReplay = (t : Trace) (h k : Histories) → WellFormed t → Alone t h → Alone t k → h ≡ k
