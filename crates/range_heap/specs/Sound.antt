-- What the parts of a heap say of its history.
use Rattle.std.specs.Prelude.{◌≡◌, ℕ, ◌+◌, ◌*◌, ◌<◌, ◌≤◌, ◌%◌, ◌^◌, Bool, true, false, List, Option, None, length, slice_index_or}
use Rattle.range_heap.specs.declared.call.HeapCall.{HeapCall}
use Rattle.range_heap.specs.Blocks.{live_blocks, live_at, IsClear}
use Rattle.range_heap.specs.History.{Legal, region}

pub record Sound (first size : ℕ) (units : List Bool) (sizes : List (Option ℕ)) (h : List HeapCall) : Type 0 where
  pub first_multiple : first % 16 ≡ 0
  pub first_below : first < 2 ^ 62
  pub size_multiple : size % 16 ≡ 0
  pub least : 16 ≤ size
  pub most : size ≤ 1048576
  pub unit_count : 16 * length units ≡ size
  pub size_count : 16 * length sizes ≡ size
  pub table : (k : ℕ) → k < length sizes → slice_index_or sizes k None ≡ live_at (first + 16 * k) h
  pub free : (k : ℕ) → k < length units → slice_index_or units k false ≡ true → IsClear (live_blocks h) (first + 16 * k) 16
  pub covered : (k : ℕ) → k < length units → IsClear (live_blocks h) (first + 16 * k) 16 → slice_index_or units k false ≡ true
  pub legal : Legal (region first size) h
