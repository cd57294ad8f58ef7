-- What is kept of a type beside its facts: numbers of types that are found from it.
use Rattle.std.specs.Prelude.{◌≡◌, ◌≤◌, ◌<◌, ℕ, List, slice_get, Some}
use Rattle.c_types.specs.CTypes.{CType}
use Rattle.c_types.specs.Canonical.{canonical}
use Rattle.c_types.specs.Compatible.{with_ints}
use Rattle.c_types.specs.Plain.{plain, qualifiers_met}
use Rattle.c_types.specs.Roots.{IsRoot, IsCanonical}
use Rattle.c_types.specs.Table.{type_at}
use Rattle.c_types.specs.declared.facts.Shape.{Shape}
use Rattle.c_types.specs.declared.terms.Term.{Term}

-- s is of the type with number i
pub record IsShape (ts : List Term) (i : ℕ) (s : Shape) : Type 0 where
  pub root : IsCanonical ts i s.root.0
  -- the canonical type in which enumerations count as int
  pub ints_below : s.ints.0 ≤ i
  pub ints_is : type_at ts s.ints.0 ≡ with_ints (canonical (type_at ts i))
  pub ints_root : IsRoot ts s.ints.0
  pub plain_below : s.plain.0 ≤ i
  pub plain_is : type_at ts s.plain.0 ≡ plain (type_at ts i)
  pub qualifiers_is : s.qualifiers ≡ qualifiers_met (type_at ts i)
  pub qualifiers_small : s.qualifiers < 8

-- the shapes of all types, by number
abbrev pub AreShapes : List Term → List Shape → Type 0
AreShapes ts shapes = (i : ℕ) (s : Shape) → slice_get shapes i ≡ Some s → IsShape ts i s
