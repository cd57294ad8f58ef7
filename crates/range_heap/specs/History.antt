-- Which histories of one range are legal.
use Rattle.std.specs.Prelude.{◌≡◌, ℕ, ◌+◌, ◌<◌, ◌≤◌, ◌%◌, true, List, [], ◌∷◌, ◌++◌}
use Rattle.range_heap.specs.declared.call.HeapCall.{HeapCall}
use Rattle.range_heap.specs.declared.call.HeapEvent.{HeapEvent}
use Rattle.range_heap.specs.declared.call.HeapEvent.TheVariants.{Grant, Refuse, Release}
use Rattle.range_heap.specs.Blocks.{rounded, live_blocks, live, IsClear}

abbrev pub call_of : ℕ → HeapEvent → HeapCall
call_of who what = record { who = who; what = what }

-- the addresses from `first` on, `size` of them
pub record Region : Type 0 where
  pub first : ℕ
  pub size : ℕ

abbrev pub region : ℕ → ℕ → Region
region first size = record { first = first; size = size }

-- a block of this size and alignment fits at a place, after the history `done`
pub record FitsAt (r : Region) (done : List HeapCall) (size align place : ℕ) : Type 0 where
  pub multiple : place % 16 ≡ 0
  pub aligned : place % align ≡ 0
  pub above : r.first ≤ place
  pub within : place + rounded size ≤ r.first + r.size
  pub clear : IsClear (live_blocks done) place (rounded size)

-- an event may stand after the history `done`: a grant is of the lowest place that fits, a refusal
-- comes where no place fits, a release is of the start of a live block
abbrev pub MayFollow : Region → List HeapCall → HeapEvent → Type 0
MayFollow r done (Grant size place) = FitsAt r done size 16 place × ((below : ℕ) → below < place → ¬ FitsAt r done size 16 below)
MayFollow r done (Refuse size) = (place : ℕ) → ¬ FitsAt r done size 16 place
MayFollow r done (Release place) = live place done ≡ true

abbrev pub LegalFrom : Region → List HeapCall → List HeapCall → Type 0
LegalFrom r done [] = Unit {0}
LegalFrom r done (e ∷ es) = MayFollow r done e.what × LegalFrom r (done ++ e ∷ []) es

-- every entry may stand after those in front of it
abbrev pub Legal : Region → List HeapCall → Type 0
Legal r h = LegalFrom r [] h
