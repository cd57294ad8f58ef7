-- What is kept while the events of a trace are made; no public contract names it.
use Rattle.std.specs.Prelude.{◌≡◌, ℕ, ◌<◌, true, false, List, [], ◌∷◌, ◌++◌, length, slice_index_or, Option, Some, None}
use Rattle.range_heap.specs.declared.call.HeapCall.{HeapCall}
use Rattle.range_heap.specs.declared.call.RangeCall.TheVariants.{Ask, GiveBack}
use Rattle.range_heap.specs.Blocks.{live}
use Rattle.range_heap.specs.Ranges.{AllLegal}
use Rattle.range_heap.specs.Seen.{AllHeaps}
use Rattle.range_heap.specs.Steps.{Made, histories}
use Rattle.trace_format.specs.Reading.{allocations, freed}
use Rattle.trace_format.specs.Phases.{name_of}
use Rattle.trace_format.specs.declared.trace.Event.{Event}
use Rattle.trace_replay.specs.Due.{token_of, fate_of, due}

-- behind the events `done`, name n holds the place p of range t
pub record Holds (trace done : List Event) (fates : List (Option ℕ)) (n p t : ℕ) : Type 0 where
  pub within : n < length fates
  pub place : fate_of fates n ≡ Some p
  pub kept : freed n done ≡ false
  pub token : token_of n trace ≡ Some t

-- all these events are of the first k names
abbrev pub Below : ℕ → List Event → Type 0
Below k [] = Unit {0}
Below k (e ∷ es) = (name_of e < k) × Below k es

-- the range of name n
pub record HasRange (count : ℕ) (trace : List Event) (n : ℕ) : Type 0 where
  pub token : ℕ
  pub below : token < count
  pub is : token_of n trace ≡ Some token

-- the events `done` of the trace were made, with these fates and these histories
pub record Going (count : ℕ) (trace done : List Event) (fates : List (Option ℕ)) (hs : List (List HeapCall)) : Type 0 where
  pub ranges : length hs ≡ count
  pub named : length fates ≡ allocations done
  pub below : Below (length fates) done
  pub tokens : (n : ℕ) → n < length fates → HasRange count trace n
  pub order : (t : ℕ) → t < count → slice_index_or hs t [] ≡ due fates trace t done
  pub lives : (n p t : ℕ) → t < count → Holds trace done fates n p t → live p (slice_index_or hs t []) ≡ true
  pub apart : (m n p t : ℕ) → t < count → Holds trace done fates m p t → Holds trace done fates n p t → m ≡ n

-- a request, and what was noted of it
pub record Asked (who token size : ℕ) (fates after : List (Option ℕ)) (old new : AllHeaps) : Type 0 where
  pub fate : Option ℕ
  pub fates_are : after ≡ fates ++ fate ∷ []
  pub made : Made (Ask who token size) fate (histories old) (histories new)
  pub legal : AllLegal new.size (histories new)

-- what was granted is released, and what was refused gives no call
abbrev pub GivenBack : ℕ → Option ℕ → List (List HeapCall) → List (List HeapCall) → Type 0
GivenBack who None old new = new ≡ old
GivenBack who (Some place) old new = (answer : Option ℕ) × Made (GiveBack who place) answer old new
