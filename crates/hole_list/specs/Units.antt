-- Storage as a list of units, of which each is free (true) or not.
use Rattle.std.specs.Prelude.{◌≡◌, ◌⊎◌, ℕ, ◌+◌, ◌<◌, ◌≤◌, Bool, true, false, cond, List, [], ◌∷◌, length, slice_index_or}

-- n units from `at` on are free
abbrev pub IsRun : List Bool → ℕ → ℕ → Type 0
IsRun units at n = (k : ℕ) → at ≤ k → k < at + n → slice_index_or units k false ≡ true

-- the lowest place from which n units are free
pub record IsLowestRun (units : List Bool) (n at : ℕ) : Type 0 where
  pub run : IsRun units at n
  pub lowest : (below : ℕ) → below < at → ¬ IsRun units below n

-- the n units from `at` on have become `state`, and all others are as they were
pub record Marked (state : Bool) (old new : List Bool) (at n : ℕ) : Type 0 where
  pub same_length : length new ≡ length old
  pub inside : (k : ℕ) → at ≤ k → k < at + n → slice_index_or new k false ≡ state
  pub outside : (k : ℕ) → (k < at) ⊎ (at + n ≤ k) → slice_index_or new k false ≡ slice_index_or old k false

-- how many maximal runs begin in the units, where `before` says whether the unit in front of them is free
abbrev pub runs_after : Bool → List Bool → ℕ
runs_after before [] = 0
runs_after before (unit ∷ units) = cond unit (cond before 0 1) 0 + runs_after unit units

-- how many maximal runs of free units there are
abbrev pub run_count : List Bool → ℕ
run_count units = runs_after false units
