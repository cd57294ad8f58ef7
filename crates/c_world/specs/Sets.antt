-- A set of names, as the list of those that were put in, the newest first.
use Rattle.std.specs.Prelude.{◌≡◌, ℕ, List, is_some}
use Rattle.name_places.specs.declared.places.NamePlaces.{NamePlaces}
use Rattle.name_places.specs.Placed.{placed}
use Rattle.c_rules.specs.World.{is_listed}

-- the index has a place for exactly the listed names
abbrev pub Indexes : NamePlaces → List (List ℕ) → Type 0
Indexes places names = (name : List ℕ) → is_some (placed places name) ≡ is_listed name names
