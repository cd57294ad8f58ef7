-- The tags of a unit, by an index.
use Rattle.std.specs.Prelude.{◌≡◌, ℕ, ◌<◌, List, length, IfSome, option_map, option_and_then, slice_get}
use Rattle.name_places.specs.declared.places.NamePlaces.{NamePlaces}
use Rattle.name_places.specs.Placed.{placed}
use Rattle.c_rules.specs.World.{Tag, find_tag}
use Rattle.c_world.specs.declared.tags.TagEntry.{TagEntry}
use Rattle.c_world.specs.declared.tags.Named.{Named}

abbrev pub tag_of : Named → Tag
tag_of n = record { name = n.name; sort = n.tag.sort; number = n.tag.number }

-- a tag as it is listed, by its name, and what it names
abbrev pub tag_named : List ℕ → TagEntry → Tag
tag_named name t = record { name = name; sort = t.sort; number = t.number }

abbrev pub entry_of : Tag → TagEntry
entry_of t = record { sort = t.sort; number = t.number }

-- what the list has at the place of a name is the tag of this name
pub record Indexes (places : NamePlaces) (list : List Named) (tags : List Tag) : Type 0 where
  pub found : (name : List ℕ) → option_map (λ n. n.tag) (option_and_then (slice_get list) (placed places name)) ≡ option_map entry_of (find_tag name tags)
  pub within : (name : List ℕ) → IfSome (placed places name) (λ p. p < length list)
