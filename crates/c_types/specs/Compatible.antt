-- The same type, and compatible types (ISO/IEC 9899:2018, 6.2.7): types are compared by their canonical types.
use Rattle.std.specs.Prelude.{ℕ, ◌==◌, Bool, true, false, ◌&&◌, nat_eq}
use Rattle.std.specs.Cmp.Lexicographic.{pointwise}
use Rattle.num_ops.specs.declared.kinds.IntKind.TheVariants as k
use Rattle.c_types.specs.CTypes.{CType, CTypes, Void, Int, Enum, Pointer, Array, Flexible, Function, Record, Named, Qualified, no_types, one_type}
use Rattle.c_types.specs.Canonical.{canonical, unqualified}
use Rattle.c_types.specs.Keys.{kind_number}

abbrev mutual
  pub equal : CType → CType → Bool
  equal Void Void = true
  equal (Int k) (Int l) = kind_number k == kind_number l
  equal (Enum e) (Enum f) = e == f
  equal (Pointer t) (Pointer u) = equal t u
  equal (Array t n) (Array u m) = equal t u && (n == m)
  equal (Flexible t) (Flexible u) = equal t u
  equal (Function r ps) (Function s qs) = equal r s && equal_all ps qs
  equal (Record k) (Record l) = k == l
  equal (Named n t) (Named m u) = pointwise nat_eq n m && equal t u
  equal (Qualified p t) (Qualified q u) = (p == q) && equal t u
  equal t u = false

  pub equal_all : CTypes → CTypes → Bool
  equal_all no_types no_types = true
  equal_all (one_type t ts) (one_type u us) = equal t u && equal_all ts us
  equal_all ts us = false

-- of a canonical type: an enumeration counts as int where it stands in no function type (6.7.2.2, paragraph 4)
abbrev pub with_ints : CType → CType
with_ints (Enum e) = Int k.Int
with_ints (Pointer t) = Pointer (with_ints t)
with_ints (Array t n) = Array (with_ints t) n
with_ints (Flexible t) = Flexible (with_ints t)
with_ints (Qualified q t) = Qualified q (with_ints t)
with_ints (Named n t) = Named n (with_ints t)
with_ints Void = Void
with_ints (Int k) = Int k
with_ints (Function r ps) = Function r ps
with_ints (Record k) = Record k

abbrev pub is_same : CType → CType → Bool
is_same t u = equal (canonical t) (canonical u)

abbrev pub are_compatible : CType → CType → Bool
are_compatible t u = equal (with_ints (canonical t)) (with_ints (canonical u))

-- whether two types are compatible, the outer qualifiers of both left aside: as the types that two pointers point to
abbrev pub are_alike : CType → CType → Bool
are_alike t u = equal (with_ints (unqualified (canonical t))) (with_ints (unqualified (canonical u)))
