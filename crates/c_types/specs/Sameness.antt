-- The number that a table has for a canonical type.
use Rattle.std.specs.Prelude.{◌≡◌, ◌≢◌, ◌<◌, ◌↔◌, ℕ, List, length}
use Rattle.c_types.specs.CTypes.{CType}
use Rattle.c_types.specs.Canonical.{canonical}
use Rattle.c_types.specs.Table.{type_at}
use Rattle.c_types.specs.declared.terms.Term.{Term}

-- the first type of a table that is t
pub record IsFirst (ts : List Term) (t : CType) (i : ℕ) : Type 0 where
  pub below : i < length ts
  pub is : type_at ts i ≡ t
  pub first : (j : ℕ) → j < i → type_at ts j ≢ t

-- equal numbers stand exactly for equal canonical types
abbrev pub SameNumbers : Type 0
SameNumbers =
    (ts : List Term) (a b i j : ℕ) → IsFirst ts (canonical (type_at ts a)) i → IsFirst ts (canonical (type_at ts b)) j → (i ≡ j) ↔ (canonical (type_at ts a) ≡ canonical (type_at ts b))
