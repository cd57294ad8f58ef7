-- The text of a trace.
use Rattle.std.specs.Prelude.{ℕ, codes, decimal, List, [], ◌∷◌, ◌++◌}
use Rattle.token_modes.specs.ModeName.{mode_name}
use Rattle.token_modes.specs.declared.mode.Mode.{Mode}
use Rattle.trace_format.specs.declared.trace.Event.{Event}
use Rattle.trace_format.specs.declared.trace.Event.TheVariants.{Alloc, Free}
use Rattle.trace_format.specs.declared.trace.Trace.{Trace}

abbrev pub event_text : Event → List ℕ
event_text (Alloc worker name token size) = codes "a " ++ decimal worker ++ 32 ∷ [] ++ decimal name ++ 32 ∷ [] ++ decimal token ++ 32 ∷ [] ++ decimal size ++ 10 ∷ []
event_text (Free worker name) = codes "f " ++ decimal worker ++ 32 ∷ [] ++ decimal name ++ 10 ∷ []

abbrev pub events_text : List Event → List ℕ
events_text [] = []
events_text (e ∷ es) = event_text e ++ events_text es

-- the first line, and those of the ranges, of the mode and of the workers
abbrev pub first_text : List ℕ
first_text = codes "alloctoken-trace 1" ++ 10 ∷ []

abbrev pub ranges_text : ℕ → ℕ → List ℕ
ranges_text count size = codes "ranges " ++ decimal count ++ 32 ∷ [] ++ decimal size ++ 10 ∷ []

abbrev pub mode_text : Mode → List ℕ
mode_text mode = codes "mode " ++ mode_name mode ++ 10 ∷ []

abbrev pub workers_text : ℕ → List ℕ
workers_text workers = codes "workers " ++ decimal workers ++ 10 ∷ []

abbrev pub settings_text : Trace → List ℕ
settings_text t = ranges_text t.count t.size ++ mode_text t.mode ++ workers_text t.workers

abbrev pub header_text : Trace → List ℕ
header_text t = first_text ++ settings_text t

abbrev pub trace_text : Trace → List ℕ
trace_text t = header_text t ++ events_text t.events
