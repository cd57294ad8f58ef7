-- Rules 12 to 31: what an expression demands of its parts, a line each (ISO/IEC 9899:2018, 6.5).
use Rattle.std.specs.Prelude.{ℕ, bit_or, ◌==◌, Bool, true, false, ◌&&◌, ◌||◌, not, if◌then◌else◌, List, [], ◌∷◌, Option, Some, None, is_some}
use Rattle.num_ops.specs.Conversions.{common_kind}
use Rattle.c_types.specs.CTypes.{CType, CTypes, Void, Int, Pointer, Record, Qualified, no_types, one_type}
use Rattle.c_types.specs.Canonical.{with_qualifiers}
use Rattle.c_types.specs.Compatible.{are_alike as types_alike}
use Rattle.c_types.specs.Consts.{holds_const}
use Rattle.c_types.specs.Plain.{plain, qualifiers_met, parameters_of, is_function, count_types}
use Rattle.c_types.specs.Records.{MemberOf, members_at, member_in}
use Rattle.c_rules.specs.Types.{outer_qualifiers, settled, pointee, is_void, is_integer, is_bool, is_pointer, is_array, is_record, kind_of, keeps_qualifiers}
use Rattle.c_rules.specs.Typed.{Typed, is_null_constant}
use Rattle.c_rules.specs.World.{World, is_complete}

-- ---- pointers

abbrev pub points_to : (CType → Bool) → CType → Bool
points_to p (Pointer t) = p t
points_to p t = false

-- the pointee of a type is an object type, complete or not (6.2.5, paragraph 1)
abbrev pub is_object_pointer : CType → Bool
is_object_pointer t = points_to (λ u. not (is_function (plain u))) t

abbrev pub is_function_pointer : CType → Bool
is_function_pointer t = points_to (λ u. is_function (plain u)) t

abbrev pub is_void_pointer : CType → Bool
is_void_pointer t = points_to (λ u. is_void (plain u)) t

abbrev pub is_complete_pointer : World → CType → Bool
is_complete_pointer w t = points_to (is_complete w) t

-- two pointers to compatible types
abbrev pub are_alike : CType → CType → Bool
are_alike a b = is_pointer a && is_pointer b && types_alike (pointee a) (pointee b)

abbrev pub are_integers : CType → CType → Bool
are_integers a b = is_integer a && is_integer b

-- ---- records

-- the member of this name; only a finished record has members
abbrev pub member_of : World → CType → List ℕ → Option MemberOf
member_of w (Record k) n = member_in n (members_at w.records.members k)
member_of w t n = None

-- ---- the rules; a and b are the settled types of the operands x and y

-- 13: `+ - ~` take an integer, `!` a scalar: is_integer, is_scalar

-- 14: a pointer to a complete object type, a record or a function
abbrev pub is_referent : World → CType → Bool
is_referent w t = is_complete w t || is_record (plain t) || is_function (plain t)

abbrev pub can_be_followed : World → CType → Bool
can_be_followed w a = points_to (is_referent w) a

-- 15: an lvalue or a function
abbrev pub has_address : Typed → Bool
has_address x = x.is_lvalue || is_function (plain x.type)

-- 24: no array, not const, no record with a const member, and of a complete type (6.3.2.1, paragraph 1)
abbrev pub is_modifiable : World → Typed → Bool
is_modifiable w x = x.is_lvalue && not (is_array (plain x.type)) && not (holds_const w.records.layouts x.type) && is_complete w x.type

-- 16: a modifiable lvalue that is an integer or a pointer to a complete type
abbrev pub can_step : World → Typed → Bool
can_step w x = is_modifiable w x && (is_integer (plain x.type) || is_complete_pointer w (plain x.type))

-- 18: integers, or a pointer to a complete type and an integer
abbrev pub can_be_added : World → CType → CType → Bool
can_be_added w a b =
    are_integers a b || (is_complete_pointer w a && is_integer b) || (is_integer a && is_complete_pointer w b)

-- 18: those with the pointer first, or pointers to compatible complete types
abbrev pub can_be_subtracted : World → CType → CType → Bool
can_be_subtracted w a b =
    are_integers a b || (is_complete_pointer w a && is_integer b) || (are_alike a b && is_complete_pointer w a && is_complete_pointer w b)

-- 19: integers, or pointers to compatible object types
abbrev pub can_be_ordered : CType → CType → Bool
can_be_ordered a b = are_integers a b || (are_alike a b && is_object_pointer a)

-- a pointer and a null constant
abbrev pub is_beside_null : CType → Typed → Bool
is_beside_null a y = is_pointer a && is_null_constant y

-- 20: integers, pointers to compatible types, a pointer and a `void *`, or a pointer and a null constant
abbrev pub can_be_equal : CType → CType → Typed → Typed → Bool
can_be_equal a b x y =
    are_integers a b || are_alike a b || (is_pointer a && is_void_pointer b) || (is_void_pointer a && is_pointer b)
    || is_beside_null a y || is_beside_null b x

-- 22: two integers, two voids, two pointers to compatible types, a pointer and a null constant, an object pointer and a `void *`
abbrev pub can_be_chosen : CType → CType → Typed → Typed → Bool
can_be_chosen a b x y =
    are_integers a b || (is_void a && is_void b) || are_alike a b || is_beside_null a y || is_beside_null b x
    || (is_object_pointer a && is_void_pointer b) || (is_void_pointer a && is_object_pointer b)

-- 23: where a pointer that is no null constant goes to a pointer
abbrev pub fits_pointer : CType → CType → Bool
fits_pointer to a =
    (are_alike to a || (is_object_pointer to && is_void_pointer a) || (is_void_pointer to && is_object_pointer a))
    && keeps_qualifiers (pointee to) (pointee a)

abbrev pub is_same_record : CType → CType → Bool
is_same_record (Record k) (Record l) = k == l
is_same_record t u = false

-- 23: a value of x, whose settled type is a, converted as by assignment to a plain type
abbrev pub fits : CType → CType → Typed → Bool
fits to a x =
    are_integers to a || (is_bool to && is_pointer a) || is_beside_null to x
    || (is_pointer to && is_pointer a && fits_pointer to a) || is_same_record to a

abbrev pub converts : CType → Typed → Bool
converts to x = fits (plain to) (settled x.type) x

-- 26: to void; integer to integer; object pointer to object pointer, function pointer to function pointer; a null constant to
-- a pointer; a pointer to `_Bool`
abbrev pub can_be_cast : CType → Typed → Bool
can_be_cast to x = casts (plain to) (settled x.type)
  where
    casts : CType → CType → Bool
    casts t a =
        is_void t || are_integers t a || (is_object_pointer t && is_object_pointer a) || (is_function_pointer t && is_function_pointer a)
        || is_beside_null t x || (is_bool t && is_pointer a)

-- 27: a pointer to a function with so many parameters
abbrev pub can_be_called : CType → ℕ → Bool
can_be_called f n = points_to (λ t. is_function (plain t) && (count_types (parameters_of (plain t)) == n)) f

-- 23, at a call: each argument that has a parameter is converted to it
abbrev pub all_convert : CTypes → List Typed → Bool
all_convert no_types xs = true
all_convert (one_type p ps) [] = true
all_convert (one_type p ps) (x ∷ xs) = converts p x && all_convert ps xs

-- 28: a pointer to a complete type and an integer, on either side
abbrev pub can_be_indexed : World → CType → CType → Bool
can_be_indexed w a b = (is_complete_pointer w a && is_integer b) || (is_integer a && is_complete_pointer w b)

-- 29: a record with that member
abbrev pub has_member : World → CType → List ℕ → Bool
has_member w t n = is_some (member_of w t n)

-- 31: an expression of record type is an lvalue
abbrev pub is_lvalue_record : Typed → Bool
is_lvalue_record x = not (is_record (plain x.type)) || x.is_lvalue

-- ---- types of results

abbrev pub common_type : CType → CType → CType
common_type a b = Int (common_kind (kind_of a) (kind_of b))

-- 18: a pointer stays one
abbrev pub sum_type : CType → CType → CType
sum_type a b = if is_pointer a then a else if is_pointer b then b else common_type a b

-- a pointer type whose pointee has the qualifiers q too; as written where it has them
abbrev pub with_pointee : ℕ → CType → CType
with_pointee q t =
    if bit_or q (outer_qualifiers (pointee (plain t))) == outer_qualifiers (pointee (plain t)) then t
    else Pointer (Qualified q (pointee (plain t)))

abbrev pub joined : CType → CType → CType
joined t other = with_pointee (outer_qualifiers (pointee other)) t

-- 22: t and u are the types of the values as written
abbrev pub chosen_type : CType → CType → CType → CType → Typed → Typed → CType
chosen_type t u a b x y =
    if are_integers a b then common_type a b
    else if is_void a then Void
    else if is_beside_null a y && not (are_alike a b) then t
    else if is_beside_null b x && not (are_alike a b) then u
    else if are_alike a b then joined t b
    else if is_void_pointer a then joined t b
    else joined u a

-- 29: a member has the qualifiers of its record too
abbrev pub type_of_member : Option MemberOf → CType
type_of_member (Some m) = m.type
type_of_member None = Void

abbrev pub member_type : World → CType → List ℕ → CType
member_type w t n = with_qualifiers (qualifiers_met t) (type_of_member (member_of w (plain t) n))
