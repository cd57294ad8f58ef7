-- The places of names in a list.
use Rattle.std.specs.Prelude.{ℕ, suc, nat_eq, List, [], ◌∷◌, Option, Some, None, if◌then◌else◌}
use Rattle.std.specs.Option.{option_map}
use Rattle.std.specs.Cmp.Lexicographic.{pointwise}
use Rattle.std.specs.Map.{lookup}
use Rattle.name_places.specs.declared.places.NamePlaces.{NamePlaces}

-- the place of the first one that is the name, from 0
abbrev pub place_of : List ℕ → List (List ℕ) → Option ℕ
place_of name [] = None
place_of name (n ∷ ns) = if pointwise nat_eq name n then Some 0 else option_map suc (place_of name ns)

-- the place that is noted for a name
unfoldable pub placed : NamePlaces → List ℕ → Option ℕ
placed p name = lookup (λ k. pointwise nat_eq name k.items) p.index.entries

abbrev pub or_else : Option ℕ → Option ℕ → Option ℕ
or_else (Some a) b = Some a
or_else None b = b

-- with a place for one more name, where it had none
abbrev pub with_place : (List ℕ → Option ℕ) → List ℕ → ℕ → List ℕ → Option ℕ
with_place before name place other = or_else (before other) (if pointwise nat_eq other name then Some place else None)
