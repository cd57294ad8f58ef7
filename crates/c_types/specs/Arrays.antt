-- Arrays of arrays.
use Rattle.std.specs.Prelude.{◌≡◌, ℕ, Bool, true, false, List, [], ◌∷◌}
use Rattle.c_types.specs.CTypes.{CType, Void, Int, Enum, Pointer, Array, Flexible, Function, Record, Named, Qualified}
use Rattle.c_types.specs.Canonical.{qualify}
use Rattle.c_types.specs.Table.{type_at}
use Rattle.c_types.specs.declared.terms.Term.{Term}
use Rattle.c_types.specs.declared.terms.TypeId.{TypeId}

abbrev pub is_array : CType → Bool
is_array (Array t n) = true
is_array (Flexible t) = true
is_array Void = false
is_array (Int k) = false
is_array (Enum e) = false
is_array (Pointer t) = false
is_array (Function r ps) = false
is_array (Record k) = false
is_array (Named n t) = false
is_array (Qualified q t) = false

-- the type of an array's elements
abbrev pub element : CType → CType
element (Array t n) = t
element (Flexible t) = t
element Void = Void
element (Int k) = Int k
element (Enum e) = Enum e
element (Pointer t) = Pointer t
element (Function r ps) = Function r ps
element (Record k) = Record k
element (Named n t) = Named n t
element (Qualified q t) = Qualified q t

-- an array with other elements
abbrev pub with_element : CType → CType → CType
with_element (Array t n) u = Array u n
with_element (Flexible t) u = Flexible u
with_element Void u = Void
with_element (Int k) u = Int k
with_element (Enum e) u = Enum e
with_element (Pointer t) u = Pointer t
with_element (Function r ps) u = Function r ps
with_element (Record k) u = Record k
with_element (Named n t) u = Named n t
with_element (Qualified q t) u = Qualified q t

-- from an array t through its elements, the elements of these and so on, which have these numbers, to b
abbrev pub IsPath : List Term → CType → List TypeId → CType → Type 0
IsPath ts t [] b = b ≡ t
IsPath ts t (l ∷ ls) b = (type_at ts l.0 ≡ t) × (is_array t ≡ true) × IsPath ts (element t) ls b

-- the same, where b is what is below with more qualifiers
abbrev pub IsRaised : List Term → ℕ → CType → List TypeId → CType → Type 0
IsRaised ts q t [] b = b ≡ qualify q t
IsRaised ts q t (l ∷ ls) b = (type_at ts l.0 ≡ t) × (is_array t ≡ true) × IsRaised ts q (element t) ls b
