-- Which traces are well formed.
use Rattle.std.specs.Prelude.{◌≡◌, ℕ, ◌+◌, ◌*◌, ◌%◌, ◌^◌, ◌<◌, ◌≤◌, false, List, [], ◌∷◌, ◌++◌, length}
use Rattle.trace_format.specs.Reading.{allocations, freed}
use Rattle.trace_format.specs.declared.trace.Event.{Event}
use Rattle.trace_format.specs.declared.trace.Event.TheVariants.{Alloc, Free}
use Rattle.trace_format.specs.declared.trace.Trace.{Trace}

-- with so many ranges and workers, an event may stand behind these: an allocation is named by the number of those
-- before it, and what is freed was allocated before and not freed
abbrev pub Fits : ℕ → ℕ → List Event → Event → Type 0
Fits count workers before (Alloc worker name token size) = (worker < workers) × (name ≡ allocations before) × (token < count) × (size < 2 ^ 64)
Fits count workers before (Free worker name) = (worker < workers) × (name < allocations before) × (freed name before ≡ false)

abbrev pub AllFit : ℕ → ℕ → List Event → List Event → Type 0
AllFit count workers before [] = Unit {0}
AllFit count workers before (e ∷ es) = Fits count workers before e × AllFit count workers (before ++ e ∷ []) es

-- 1 to 256 ranges of a multiple of 16 from 16 to 1048576 bytes, together at most 33554432, and 1 to 64 workers
pub record WellFormed (t : Trace) : Type 0 where
  pub some : 1 ≤ t.count
  pub most : t.count ≤ 256
  pub multiple : t.size % 16 ≡ 0
  pub least : 16 ≤ t.size
  pub largest : t.size ≤ 1048576
  pub together : t.count * t.size ≤ 33554432
  pub some_worker : 1 ≤ t.workers
  pub most_workers : t.workers ≤ 64
  pub few : length t.events ≤ 1000000
  pub fit : AllFit t.count t.workers [] t.events
