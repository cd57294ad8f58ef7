-- What a call on one of the ranges changes.
use Rattle.std.specs.Prelude.{map, ◌≡◌, ℕ, ◌+◌, ◌<◌, ◌≤◌, true, false, List, [], ◌∷◌, ◌++◌, length, take, slice_index_or, slice_set, Option, None, IfSome, MatchOption}
use Rattle.range_heap.specs.declared.call.HeapCall.{HeapCall}
use Rattle.range_heap.specs.declared.call.HeapEvent.{HeapEvent}
use Rattle.range_heap.specs.declared.call.HeapEvent.TheVariants.{Grant, Refuse, Release}
use Rattle.range_heap.specs.declared.call.RangeCall.{RangeCall}
use Rattle.range_heap.specs.declared.call.RangeCall.TheVariants.{Ask, GiveBack}
use Rattle.range_heap.specs.Blocks.{live}
use Rattle.range_heap.specs.History.{call_of}
use Rattle.range_heap.specs.Seen.{Kept, AllHeaps}

-- a grant or a refusal, and nothing else
pub record Granted (who size : ℕ) (answer : Option ℕ) (old new : Kept) : Type 0 where
  pub first : new.first ≡ old.first
  pub same_size : new.size ≡ old.size
  pub room : new.room + 1 ≡ old.room
  pub entry : MatchOption answer (new.history ≡ old.history ++ call_of who (Refuse size) ∷ []) (λ place. new.history ≡ old.history ++ call_of who (Grant size place) ∷ [])
  pub fresh : IfSome answer (λ place. live place old.history ≡ false)

pub record Released (who place : ℕ) (old new : Kept) : Type 0 where
  pub first : new.first ≡ old.first
  pub same_size : new.size ≡ old.size
  pub room : new.room + 1 ≡ old.room
  pub entry : new.history ≡ old.history ++ call_of who (Release place) ∷ []

-- only the room has grown
pub record Roomier (old new : Kept) : Type 0 where
  pub first : new.first ≡ old.first
  pub same_size : new.size ≡ old.size
  pub history : new.history ≡ old.history
  pub room : old.room ≤ new.room

-- heap t alone has changed, in this way
pub record Changed (t : ℕ) (Way : Kept → Kept → Type 0) (old new : AllHeaps) : Type 0 where
  pub after : Kept
  pub same_size : new.size ≡ old.size
  pub heaps : new.heaps ≡ slice_set old.heaps t after
  pub way : (d : Kept) → Way (slice_index_or old.heaps t d) after

-- a live block begins at this place in range t, where one more call can be noted
pub record HasLive (all : AllHeaps) (place t : ℕ) : Type 0 where
  pub within : t < length all.heaps
  pub is_live : (d : Kept) → live place (slice_index_or all.heaps t d).history ≡ true
  pub room : (d : Kept) → 0 < (slice_index_or all.heaps t d).room

abbrev pub histories : AllHeaps → List (List HeapCall)
histories all = map (λ (k : Kept). k.history) all.heaps

-- the histories with one more entry in range t
abbrev pub noted : List (List HeapCall) → ℕ → HeapCall → List (List HeapCall)
noted hs t e = slice_set hs t (slice_index_or hs t [] ++ e ∷ [])

-- what one call answers and notes: a grant with its place or a refusal where there is such a range, a release
-- where a live block begins at the place, and else nothing
abbrev pub Made : RangeCall → Option ℕ → List (List HeapCall) → List (List HeapCall) → Type 0
Made (Ask who token size) answer old new = (length old ≤ token → (answer ≡ None) × (new ≡ old)) × (token < length old → MatchOption answer (new ≡ noted old token (call_of who (Refuse size))) (λ place. new ≡ noted old token (call_of who (Grant size place))))
Made (GiveBack who place) answer old new = (answer ≡ None) × ((t : ℕ) → t < length old → live place (slice_index_or old t []) ≡ true → new ≡ noted old t (call_of who (Release place))) × (((t : ℕ) → t < length old → live place (slice_index_or old t []) ≡ false) → new ≡ old)

-- and what a list of calls notes, one after another
abbrev pub MadeAll : List RangeCall → List (List HeapCall) → List (List HeapCall) → Type 0
MadeAll [] old new = new ≡ old
MadeAll (c ∷ cs) old new = (answer : Option ℕ) × (middle : List (List HeapCall)) × Made c answer old middle × MadeAll cs middle new

-- the first so many of the calls were made, and not all of them
abbrev pub MadeSome : List RangeCall → List (List HeapCall) → List (List HeapCall) → Type 0
MadeSome calls old new = (count : ℕ) × (count < length calls) × MadeAll (take count calls) old new
