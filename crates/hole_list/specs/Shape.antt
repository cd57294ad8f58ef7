-- What a list of holes stands for, and which lists of holes are kept.
use Rattle.std.specs.Prelude.{ℕ, ◌+◌, ◌-◌, ◌<◌, ◌≤◌, Bool, true, false, List, [], ◌∷◌, ◌++◌, replicate}
use Rattle.hole_list.specs.declared.gap.Hole.{Hole}

-- the units from `at` up to `end`, of which just those in a hole are free
abbrev pub units_from : ℕ → ℕ → List Hole → List Bool
units_from at end [] = replicate (end - at) false
units_from at end (h ∷ hs) = (replicate (h.start - at) false ++ replicate h.len true) ++ units_from (h.start + h.len) end hs

-- the holes rise, are not empty, lie from `low` up to `end`, and leave a unit between any two
abbrev pub Apart : ℕ → ℕ → List Hole → Type 0
Apart low end [] = Unit {0}
Apart low end (h ∷ hs) = (low ≤ h.start) × (0 < h.len) × (h.start + h.len ≤ end) × Apart (h.start + h.len + 1) end hs
