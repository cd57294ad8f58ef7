-- Storage as a list of units, each free or not, beside the pieces that were taken from it.
use Rattle.std.specs.Prelude.{◌≡◌, ℕ, ◌+◌, ◌<◌, ◌≤◌, Bool, false, List, length, slice_index_or}

-- a piece begins at each unit where the row has its length and not 0; it lies inside, no unit of it is free, and
-- no two pieces meet
pub record Held (units : List Bool) (pieces : List ℕ) : Type 0 where
  pub same : length units ≡ length pieces
  pub most : length pieces ≤ 65536
  pub within : (k : ℕ) → 0 < slice_index_or pieces k 0 → k + slice_index_or pieces k 0 ≤ length pieces
  pub held : (k j : ℕ) → k ≤ j → j < k + slice_index_or pieces k 0 → slice_index_or units j false ≡ false
  pub apart : (k l : ℕ) → k < l → 0 < slice_index_or pieces k 0 → 0 < slice_index_or pieces l 0 → k + slice_index_or pieces k 0 ≤ l
