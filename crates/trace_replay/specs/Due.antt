-- What the events of a trace note in the histories of its ranges.
use Rattle.std.specs.Prelude.{◌≡◌, ℕ, ◌<◌, Bool, false, eqb, cond, List, [], ◌∷◌, ◌++◌, length, take, slice_index_or, Option, Some, None}
use Rattle.range_heap.specs.declared.call.HeapCall.{HeapCall}
use Rattle.range_heap.specs.declared.call.HeapEvent.{HeapEvent}
use Rattle.range_heap.specs.declared.call.HeapEvent.TheVariants.{Grant, Refuse, Release}
use Rattle.range_heap.specs.History.{call_of}
use Rattle.range_heap.specs.Ranges.{AllLegal}
use Rattle.trace_format.specs.Reading.{allocations}
use Rattle.trace_format.specs.declared.trace.Event.{Event}
use Rattle.trace_format.specs.declared.trace.Event.TheVariants.{Alloc, Free}
use Rattle.trace_format.specs.declared.trace.Trace.{Trace}
use Rattle.trace_format.specs.declared.phase.Phase.{Phase}
use Rattle.trace_format.specs.Phases.{PhasesFrom}
use Rattle.trace_replay.specs.declared.histories.Histories.{Histories}

-- the token with which this name is allocated
abbrev pub token_of : ℕ → List Event → Option ℕ
token_of n [] = None
token_of n (Alloc worker name token size ∷ es) = cond (eqb name n) (Some token) (token_of n es)
token_of n (Free worker name ∷ es) = token_of n es

abbrev pub is_token : ℕ → Option ℕ → Bool
is_token t None = false
is_token t (Some token) = eqb token t

-- the fates of the names: the place that each allocation was granted, or none where it was refused
abbrev pub fate_of : List (Option ℕ) → ℕ → Option ℕ
fate_of fates n = slice_index_or fates n None

abbrev pub outcome : ℕ → Option ℕ → HeapEvent
outcome size None = Refuse size
outcome size (Some place) = Grant size place

-- a release of what was granted; what was refused gives none
abbrev pub released : ℕ → Option ℕ → List HeapCall
released who None = []
released who (Some place) = call_of who (Release place) ∷ []

-- what one of the events of a trace notes in range t
abbrev pub calls_of : List (Option ℕ) → List Event → ℕ → Event → List HeapCall
calls_of fates trace t (Alloc worker name token size) = cond (eqb token t) (call_of worker (outcome size (fate_of fates name)) ∷ []) []
calls_of fates trace t (Free worker name) = cond (is_token t (token_of name trace)) (released worker (fate_of fates name)) []

-- and what they note, in their order
abbrev pub due : List (Option ℕ) → List Event → ℕ → List Event → List HeapCall
due fates trace t [] = []
due fates trace t (e ∷ es) = calls_of fates trace t e ++ due fates trace t es

-- the entries of worker w, in order
abbrev pub by : ℕ → List HeapCall → List HeapCall
by w [] = []
by w (e ∷ es) = cond (eqb e.who w) (e ∷ by w es) (by w es)

-- each worker's entries are its due calls; and up to the start of each phase the first entries, as many as are due by
-- then, hold of each worker just the calls that are due by then
pub record CoversRange (fates : List (Option ℕ)) (trace : List Event) (phases : List Phase) (t : ℕ) (h : List HeapCall) : Type 0 where
  pub of_each : (w : ℕ) → by w h ≡ by w (due fates trace t trace)
  pub of_phases : (k : ℕ) (d : Phase) → k < length phases → (w : ℕ) →
      by w (take (length (due fates trace t (take (slice_index_or phases k d).start trace))) h) ≡ by w (due fates trace t (take (slice_index_or phases k d).start trace))

-- the histories cover the trace
pub record Covers (t : Trace) (h : Histories) : Type 0 where
  pub first : h.first ≡ 16777216
  pub size : h.size ≡ t.size
  pub mode : h.mode ≡ t.mode
  pub count : length h.ranges ≡ t.count
  pub fates : List (Option ℕ)
  pub one_each : length fates ≡ allocations t.events
  pub ranges : (phases : List Phase) → PhasesFrom t.events 0 phases → (token : ℕ) → token < t.count → CoversRange fates t.events phases token (slice_index_or h.ranges token [])

-- they are the trace's events alone: legal in every range, and in the order of the events that give them
pub record Alone (t : Trace) (h : Histories) : Type 0 where
  pub legal : AllLegal t.size h.ranges
  pub covers : Covers t h
  pub order : (token : ℕ) → token < t.count → slice_index_or h.ranges token [] ≡ due covers.fates t.events token t.events
