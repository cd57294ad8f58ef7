-- Words that are given once.
use Rattle.std.specs.Prelude.{ℕ, ◌%◌, List, [], ◌∷◌, length, slice_index}

-- entry k of the words over and over, and 0 where there are none
abbrev pub fixed_word : List ℕ → ℕ → ℕ
fixed_word [] k = 0
fixed_word (w ∷ ws) k = slice_index (w ∷ ws) (k % length (w ∷ ws))
