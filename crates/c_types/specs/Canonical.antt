-- Canonical types: each typedef name replaced by its type, the qualifiers of one type joined, those of an array moved to
-- its elements, and the outer ones of a function's parameters dropped (ISO/IEC 9899:2018, 6.7.3 and 6.7.6.3).
use Rattle.std.specs.Prelude.{ℕ, if◌then◌else◌, ◌==◌, bit_or}
use Rattle.c_types.specs.CTypes.{CType, CTypes, Void, Int, Enum, Pointer, Array, Flexible, Function, Record, Named, Qualified, no_types, one_type}

-- a type that is not qualified yet, qualified
abbrev pub with_qualifiers : ℕ → CType → CType
with_qualifiers q t = if q == 0 then t else Qualified q t

-- a canonical type with more qualifiers
abbrev pub qualify : ℕ → CType → CType
qualify q (Qualified p t) = Qualified (bit_or q p) t
qualify q (Array t n) = Array (qualify q t) n
qualify q (Flexible t) = Flexible (qualify q t)
qualify q Void = with_qualifiers q Void
qualify q (Int k) = with_qualifiers q (Int k)
qualify q (Enum e) = with_qualifiers q (Enum e)
qualify q (Pointer t) = with_qualifiers q (Pointer t)
qualify q (Function r ps) = with_qualifiers q (Function r ps)
qualify q (Record k) = with_qualifiers q (Record k)
qualify q (Named n t) = with_qualifiers q (Named n t)

-- a canonical type without its outer qualifiers
abbrev pub unqualified : CType → CType
unqualified (Qualified q t) = t
unqualified Void = Void
unqualified (Int k) = Int k
unqualified (Enum e) = Enum e
unqualified (Pointer t) = Pointer t
unqualified (Array t n) = Array t n
unqualified (Flexible t) = Flexible t
unqualified (Function r ps) = Function r ps
unqualified (Record k) = Record k
unqualified (Named n t) = Named n t

abbrev mutual
  pub canonical : CType → CType
  canonical Void = Void
  canonical (Int k) = Int k
  canonical (Enum e) = Enum e
  canonical (Pointer t) = Pointer (canonical t)
  canonical (Array t n) = Array (canonical t) n
  canonical (Flexible t) = Flexible (canonical t)
  canonical (Function r ps) = Function (canonical r) (canonical_parameters ps)
  canonical (Record k) = Record k
  canonical (Named n t) = canonical t
  canonical (Qualified q t) = qualify q (canonical t)

  pub canonical_parameters : CTypes → CTypes
  canonical_parameters no_types = no_types
  canonical_parameters (one_type p ps) = one_type (unqualified (canonical p)) (canonical_parameters ps)
