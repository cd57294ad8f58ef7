-- The phases of a trace: runs of events in which no two workers touch one name.
use Rattle.std.specs.Prelude.{◌≡◌, ◌≢◌, ℕ, ◌+◌, ◌<◌, ◌≤◌, List, [], ◌∷◌, length, slice_index_or}
use Rattle.trace_format.specs.declared.trace.Event.{Event}
use Rattle.trace_format.specs.declared.trace.Event.TheVariants.{Alloc, Free}
use Rattle.trace_format.specs.declared.phase.Phase.{Phase}

abbrev pub worker_of : Event → ℕ
worker_of (Alloc worker name token size) = worker
worker_of (Free worker name) = worker

abbrev pub name_of : Event → ℕ
name_of (Alloc worker name token size) = name
name_of (Free worker name) = name

-- another worker's event from `start` up to event k has the name of event k
pub record Clash (es : List Event) (start k : ℕ) : Type 0 where
  pub other : ℕ
  pub from : start ≤ other
  pub before : other < k
  pub name : (d : Event) → name_of (slice_index_or es other d) ≡ name_of (slice_index_or es k d)
  pub worker : (d : Event) → worker_of (slice_index_or es other d) ≢ worker_of (slice_index_or es k d)

-- from `start` up to `end`, the events are one phase so far
abbrev pub IsCalm : List Event → ℕ → ℕ → Type 0
IsCalm es start end = (k : ℕ) → start ≤ k → k < end → ¬ Clash es start k

-- the phases from event `start` on: each ends before the first event that clashes, the last at the end
abbrev pub PhasesFrom : List Event → ℕ → List Phase → Type 0
PhasesFrom es start [] = start ≡ length es
PhasesFrom es start (p ∷ ps) = (p.start ≡ start) × (start < p.end) × (p.end ≤ length es) × IsCalm es start p.end × (p.end < length es → Clash es start p.end) × PhasesFrom es p.end ps
