-- Holes by their lengths: one list has at each unit the length of the hole that begins there, or 0, and another
-- the length of the hole that ends before it, or 0.
use Rattle.std.specs.Prelude.{◌≡◌, ℕ, ◌+◌, ◌-◌, ◌<◌, ◌≤◌, max, min, nat_lt, Bool, List, [], ◌∷◌, length, slice_index}

-- the units, of which just those in a hole are free; the first `left` of them are in a hole that began before
abbrev pub free_units : ℕ → List ℕ → List Bool
free_units left [] = []
free_units left (l ∷ ls) = nat_lt 0 (max left l) ∷ free_units (max left l - 1) ls

-- how many holes begin
abbrev pub holes_of : List ℕ → ℕ
holes_of [] = 0
holes_of (l ∷ ls) = min l 1 + holes_of ls

-- the holes lie inside, leave a unit between any two, and both lists and the count tell the same of them
pub record Tags (lens ends : List ℕ) (count : ℕ) : Type 0 where
  pub small : length lens ≤ 65536
  pub more : length ends ≡ length lens + 1
  pub within : (t : ℕ) → 0 < slice_index lens t → t + slice_index lens t ≤ length lens
  pub apart : (s t : ℕ) → s < t → 0 < slice_index lens s → 0 < slice_index lens t → s + slice_index lens s < t
  pub ending : (t : ℕ) → 0 < slice_index lens t → slice_index ends (t + slice_index lens t) ≡ slice_index lens t
  pub starting : (e : ℕ) → 0 < slice_index ends e → (slice_index ends e ≤ e) × (slice_index lens (e - slice_index ends e) ≡ slice_index ends e)
  pub counted : count ≡ holes_of lens
