-- What contracts see of a heap, and of the heaps of all ranges.
use Rattle.std.specs.Prelude.{ℕ, List}
use Rattle.range_heap.specs.declared.call.HeapCall.{HeapCall}

-- its range, how many calls it can note before more room is made, and its history
pub record Kept : Type 0 where
  pub first : ℕ
  pub size : ℕ
  pub room : ℕ
  pub history : List HeapCall

-- the size of each range, and the heap of each
pub record AllHeaps : Type 0 where
  pub size : ℕ
  pub heaps : List Kept

abbrev pub all_heaps : ℕ → List Kept → AllHeaps
all_heaps size heaps = record { size = size; heaps = heaps }
