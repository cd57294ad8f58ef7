-- Roots: each canonical type that a table needs stands in it once, found by its term's key.
use Rattle.std.specs.Prelude.{◌≡◌, ◌≢◌, ◌≤◌, ℕ, Bool, true, false, List, [], ◌∷◌, slice_get, Option, Some}
use Rattle.c_types.specs.CTypes as c
use Rattle.c_types.specs.CTypes.{CType}
use Rattle.c_types.specs.Canonical.{canonical, unqualified}
use Rattle.c_types.specs.Keys.{key}
use Rattle.c_types.specs.Sameness.{IsFirst}
use Rattle.c_types.specs.Table.{type_at}
use Rattle.c_types.specs.declared.terms.TypeId.{TypeId}
use Rattle.c_types.specs.declared.terms.Term.{Term}
use Rattle.c_types.specs.declared.terms.Term.TheVariants as m

-- the first type of its kind, and canonical
pub record IsRoot (ts : List Term) (r : ℕ) : Type 0 where
  pub first : IsFirst ts (type_at ts r) r
  pub fixed : canonical (type_at ts r) ≡ type_at ts r

-- r is the number of the canonical type of i
pub record IsCanonical (ts : List Term) (i r : ℕ) : Type 0 where
  pub below : r ≤ i
  pub is : type_at ts r ≡ canonical (type_at ts i)
  pub root : IsRoot ts r

-- a canonical type that takes qualifiers as it is: neither qualified nor an array
abbrev pub is_bare : CType → Bool
is_bare (c.Qualified q t) = false
is_bare (c.Array t n) = false
is_bare (c.Flexible t) = false
is_bare (c.Named n t) = false
is_bare c.Void = true
is_bare (c.Int kind) = true
is_bare (c.Enum e) = true
is_bare (c.Pointer t) = true
is_bare (c.Function r ps) = true
is_bare (c.Record k) = true

-- canonical parameters have no outer qualifiers
abbrev pub AreParameters : List Term → List TypeId → Type 0
AreParameters ts [] = Unit {0}
AreParameters ts (p ∷ ps) = IsRoot ts p.0 × (unqualified (type_at ts p.0) ≡ type_at ts p.0) × AreParameters ts ps

abbrev pub AreRoots : List Term → List TypeId → Type 0
AreRoots ts [] = Unit {0}
AreRoots ts (p ∷ ps) = IsRoot ts p.0 × AreRoots ts ps

-- a term whose parts are roots, so that its type is canonical
abbrev pub IsRootTerm : List Term → Term → Type 0
IsRootTerm ts m.Void = Unit {0}
IsRootTerm ts (m.Int kind) = Unit {0}
IsRootTerm ts (m.Enum e) = Unit {0}
IsRootTerm ts (m.Pointer t) = IsRoot ts t.0
IsRootTerm ts (m.Array t n) = IsRoot ts t.0
IsRootTerm ts (m.Flexible t) = IsRoot ts t.0
IsRootTerm ts (m.Function t ps) = IsRoot ts t.0 × AreParameters ts ps
IsRootTerm ts (m.Record k) = Unit {0}
IsRootTerm ts (m.Named n t) = ⊥
IsRootTerm ts (m.Qualified q t) = IsRoot ts t.0 × (q ≢ 0) × (is_bare (type_at ts t.0) ≡ true)

-- each root has a term of roots, and is found by its key
abbrev pub AreFound : List Term → (List ℕ → Option ℕ) → Type 0
AreFound ts find = (r : ℕ) (t : Term) → slice_get ts r ≡ Some t → IsRoot ts r → IsRootTerm ts t × (find (key t) ≡ Some r)

-- no root has this term
abbrev pub IsFresh : List Term → Term → Type 0
IsFresh ts t = (r : ℕ) → IsRoot ts r → slice_get ts r ≡ Some t → ⊥
