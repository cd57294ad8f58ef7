-- What every replay of a trace promises.
use Rattle.std.specs.Prelude.{◌≡◌, ℕ, ◌<◌, List, [], ◌++◌, length, slice_index_or}
use Rattle.range_heap.specs.declared.call.HeapCall.{HeapCall}
use Rattle.range_heap.specs.declared.half.Half.TheVariants.{Lower, Upper}
use Rattle.range_heap.specs.Blocks.{AllApart}
use Rattle.range_heap.specs.Ranges.{AllLegal, all_blocks, InStorage}
use Rattle.trace_format.specs.declared.trace.Trace.{Trace}
use Rattle.trace_replay.specs.Due.{Covers}
use Rattle.trace_replay.specs.declared.histories.Histories.{Histories}

-- these histories are fronts of those
pub record AreFronts (fronts hs : List (List HeapCall)) : Type 0 where
  pub count : length fronts ≡ length hs
  pub rest : ℕ → List HeapCall
  pub each : (t : ℕ) → t < length fronts → slice_index_or hs t [] ≡ slice_index_or fronts t [] ++ rest t

-- the histories are legal and cover the trace; at no point do two live blocks meet, whatever the ranges have come to,
-- and no address was ever in blocks of both halves
pub record Replayed (t : Trace) (h : Histories) : Type 0 where
  pub legal : AllLegal t.size h.ranges
  pub covers : Covers t h
  pub apart : (fronts : List (List HeapCall)) → AreFronts fronts h.ranges → AllApart (all_blocks fronts)
  pub halves : (address : ℕ) → InStorage h.ranges Lower address → ¬ InStorage h.ranges Upper address
