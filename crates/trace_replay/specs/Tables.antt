-- What the report keeps by unit of 16 bytes; no public contract names it.
use Rattle.std.specs.Prelude.{ℕ, ◌+◌, ◌-◌, ◌/◌, min, max, nat_lt, cond, List, [], ◌∷◌, replicate, slice_index, slice_set}
use Rattle.range_heap.specs.declared.call.HeapCall.{HeapCall}
use Rattle.range_heap.specs.declared.call.HeapEvent.{HeapEvent}
use Rattle.range_heap.specs.declared.call.HeapEvent.TheVariants.{Grant, Refuse, Release}
use Rattle.range_heap.specs.Blocks.{rounded}
use Rattle.trace_replay.specs.declared.tables.Kept.{Kept}
use Rattle.trace_replay.specs.declared.tables.Kept.TheVariants.{Live, Ever}

-- the units of a block of a range, whose size is never above 1048576
abbrev pub units_of : ℕ → ℕ
units_of size = rounded (min size 1048576) / 16

-- the number of a place among the units of the range that begins at `first`
abbrev pub unit_at : ℕ → ℕ → ℕ
unit_at first place = place / 16 - first / 16

-- how many units a range can touch
abbrev pub unit_count : ℕ → ℕ
unit_count size = size / 16 + 1

-- the units of the live block that begins at each unit, or of the largest that ever began there, after one event more
abbrev pub marked : Kept → ℕ → List ℕ → HeapEvent → List ℕ
marked Live first us (Grant size place) = slice_set us (unit_at first place) (units_of size)
marked Live first us (Refuse size) = us
marked Live first us (Release place) = slice_set us (unit_at first place) 0
marked Ever first us (Grant size place) = slice_set us (unit_at first place) (max (slice_index us (unit_at first place)) (units_of size))
marked Ever first us (Refuse size) = us
marked Ever first us (Release place) = us

abbrev pub marked_from : Kept → ℕ → List ℕ → List HeapCall → List ℕ
marked_from kept first us [] = us
marked_from kept first us (e ∷ es) = marked_from kept first (marked kept first us e.what) es

abbrev pub table : Kept → ℕ → ℕ → List HeapCall → List ℕ
table kept first size h = marked_from kept first (replicate (unit_count size) 0) h

-- how many units from number k on lie in a block, where the blocks before reach to unit `end`
abbrev pub covered : ℕ → ℕ → List ℕ → ℕ
covered k end [] = 0
covered k end (u ∷ us) = cond (nat_lt k (max end (k + u))) 1 0 + covered (k + 1) (max end (k + u)) us
