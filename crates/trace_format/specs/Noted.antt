-- What the reader keeps of the events so far; no public contract names it.
use Rattle.std.specs.Prelude.{◌≡◌, ◌⊎◌, ℕ, ◌<◌, ◌≤◌, true, false, Bool, List, [], ◌∷◌, ◌++◌, slice_set, Result, Err, length, slice_index_or}
use Rattle.trace_format.specs.Reading.{allocations, freed}
use Rattle.trace_format.specs.declared.trace.Event.{Event}
use Rattle.trace_format.specs.declared.trace.Event.TheVariants.{Alloc, Free}
use Rattle.trace_format.specs.declared.trace.TraceEnd.{TraceEnd}
use Rattle.trace_format.specs.declared.trace.TraceEnd.TheVariants.{NoMemory}

-- a flag for each allocation: whether it is freed
pub record Noted (flags : List Bool) (events : List Event) : Type 0 where
  pub count : length flags ≡ allocations events
  pub unborn : (n : ℕ) → length flags ≤ n → freed n events ≡ false
  pub flags_are : (n : ℕ) → n < length flags → slice_index_or flags n false ≡ freed n events

-- what an event frees has a flag
abbrev pub Flags : List Bool → Event → Type 0
Flags flags (Alloc worker name token size) = Unit {0}
Flags flags (Free worker name) = name < length flags

-- the flags after one event more
abbrev pub flags_after : List Bool → Event → List Bool
flags_after flags (Alloc worker name token size) = flags ++ false ∷ []
flags_after flags (Free worker name) = slice_set flags name true

-- it is this, unless memory ran out
abbrev pub OrNoMemory : {A : Type 0} → Result A TraceEnd → Result A TraceEnd → Type 0
OrNoMemory result value = (result ≡ value) ⊎ (result ≡ Err NoMemory)
