-- What is kept while the events are cut into phases; no public contract names it.
use Rattle.std.specs.Prelude.{◌≡◌, ℕ, ◌<◌, ◌≤◌, Bool, false, ◌&&◌, not, leb, eqb, List, [], ◌∷◌, ◌++◌, length, take, slice_index_or}
use Rattle.trace_format.specs.Reading.{allocations, freed}
use Rattle.trace_format.specs.Phases.{Clash, IsCalm}
use Rattle.trace_format.specs.declared.trace.Event.{Event}
use Rattle.trace_format.specs.declared.trace.Event.TheVariants.{Alloc, Free}
use Rattle.trace_format.specs.declared.phase.Phase.{Phase}
use Rattle.trace_format.specs.declared.phase.Owner.{Owner}

abbrev pub owner : ℕ → ℕ → Owner
owner worker event = record { worker = worker; event = event }

-- the owner's event is not before `start`, and the worker is another
abbrev pub is_other : Owner → ℕ → ℕ → Bool
is_other o start worker = leb start o.event && not (eqb o.worker worker)

-- the event is this worker's allocation of this name
abbrev pub IsAlloc : ℕ → ℕ → Event → Type 0
IsAlloc w n (Alloc worker name token size) = (worker ≡ w) × (name ≡ n)
IsAlloc w n (Free worker name) = ⊥

-- what event j names has an owner; an allocation's owner is itself
abbrev pub IsNoted : List Owner → ℕ → Event → Type 0
IsNoted owners j (Alloc worker name token size) = (name < length owners) × ((o : Owner) → slice_index_or owners name o ≡ owner worker j)
IsNoted owners j (Free worker name) = name < length owners

-- for each allocation of the events so far, in order: who made it, and at which event
pub record Owned (owners : List Owner) (done : List Event) : Type 0 where
  pub count : length owners ≡ allocations done
  pub before : (n : ℕ) (o : Owner) → n < length owners → (slice_index_or owners n o).event < length done
  pub made : (n : ℕ) (o : Owner) (d : Event) → n < length owners → IsAlloc (slice_index_or owners n o).worker n (slice_index_or done (slice_index_or owners n o).event d)
  pub noted : (j : ℕ) (d : Event) → j < length done → IsNoted owners j (slice_index_or done j d)

abbrev pub owners_after : List Owner → ℕ → Event → List Owner
owners_after owners j (Alloc worker name token size) = owners ++ owner worker j ∷ []
owners_after owners j (Free worker name) = owners

-- the name of an event fits behind those before
abbrev pub NameFits : List Event → Event → Type 0
NameFits before (Alloc worker name token size) = name ≡ allocations before
NameFits before (Free worker name) = (name < allocations before) × (freed name before ≡ false)

abbrev pub NameFitsAt : List Event → ℕ → Type 0
NameFitsAt es at = (d : Event) → NameFits (take at es) (slice_index_or es at d)

abbrev pub phase : ℕ → ℕ → Phase
phase start end = record { start = start; end = end }

-- the phases from event `start` up to event `end`: each ends before the first event that clashes
abbrev pub CutsTo : List Event → ℕ → List Phase → ℕ → Type 0
CutsTo es start [] end = start ≡ end
CutsTo es start (p ∷ ps) end = (p.start ≡ start) × (start < p.end) × (p.end ≤ length es) × IsCalm es start p.end × Clash es start p.end × CutsTo es p.end ps end

-- the events before event `at` are cut up to `start`, and from there on they are calm up to event `calm`
pub record IsCut (es : List Event) (at calm : ℕ) (owners : List Owner) (found : List Phase) (start : ℕ) : Type 0 where
  pub cuts : CutsTo es 0 found start
  pub reached : start ≤ at
  pub is_calm : IsCalm es start calm
  pub owned : Owned owners (take at es)
