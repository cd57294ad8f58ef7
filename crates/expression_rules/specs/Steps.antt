-- The rules' forms, cut where types are made: each word is what the form of its name tries from there on.
use Rattle.std.specs.Prelude.{ℕ, Bool, false, ◌&&◌, ◌||◌, not, ◌==◌, if◌then◌else◌, List, length, Option, None, Some, suc}
use Rattle.num_ops.specs.declared.kinds.IntKind.{IntKind}
use Rattle.num_ops.specs.declared.kinds.IntKind.TheVariants as k
use Rattle.num_ops.specs.Conversions.{common_kind, promoted}
use Rattle.num_ops.specs.Numbers.{Number}
use Rattle.c_tree.specs.declared.operator.At.{At}
use Rattle.c_tree.specs.Tree.{BinaryOp}
use Rattle.c_types.specs.CTypes.{CType, CTypes, Void, Int, Enum, Pointer, Array, Flexible, Function, Record, Named, Qualified, no_types, one_type}
use Rattle.c_types.specs.Canonical.{canonical, with_qualifiers}
use Rattle.c_types.specs.Compatible.{equal}
use Rattle.c_types.specs.Plain.{plain, result_of, parameters_of, is_function, count_types}
use Rattle.c_rules.specs.Types.{is_integer, is_pointer, is_void, is_bool, is_scalar, kind_of, pointee, decayed}
use Rattle.c_rules.specs.Typed as typed
use Rattle.c_rules.specs.Typed.{Typed, Constant, varies, is, value_of, lvalue_of, constant_of, pointer_of, is_zero_constant, pointed}
use Rattle.c_rules.specs.World.{World, note_constant}
use Rattle.c_rules.specs.Trials.{M, give, ◌>>=◌, ◌>>◌, keep, world, change}
use Rattle.c_rules.specs.Constants.{cond_of}
use Rattle.c_rules.specs.Expressions.{are_integers, are_alike, fits_pointer, is_object_pointer, is_function_pointer, is_void_pointer, is_beside_null, is_modifiable, can_be_called, converts, all_convert, can_be_chosen, can_be_indexed, chosen_type, sum_type, joined, has_member, member_type}
use Rattle.c_rules.specs.Names.{is_alias}
use Rattle.c_rules.specs.Forms.{Whole, Given, done, convert_to, convert_all, all_typed, bound, note_bound, fixed_address, function_binding, followed, cast_constant, cast_address, binary_rule, takes, binary_type, value_between, binary_address, sum_address, moved_by, back, assigned_type, member_address}
use Rattle.c_rules.specs.declared.known.ConstantValue.TheVariants as val
use Rattle.c_rules.specs.declared.known.Sort.{Sort}
use Rattle.c_rules.specs.declared.known.Sort.TheVariants as sort

-- ---- types

-- a type as a value has it, by the type behind its outer typedef names and qualifiers and by these qualifiers
abbrev pub decayed_by : (whole plain : CType) → ℕ → CType
decayed_by whole (Array t n) q = Pointer (with_qualifiers q t)
decayed_by whole (Flexible t) q = Pointer (with_qualifiers q t)
decayed_by whole (Function r ps) q = Pointer whole
decayed_by whole Void q = whole
decayed_by whole (Int kind) q = whole
decayed_by whole (Enum e) q = whole
decayed_by whole (Pointer t) q = whole
decayed_by whole (Record n) q = whole
decayed_by whole (Named n t) q = whole
decayed_by whole (Qualified p t) q = whole

-- the kind of an operand that is an integer
abbrev pub operand_kind : CType → IntKind
operand_kind t = kind_of (plain t)

-- ---- names

abbrev pub typed_as : Whole → List ℕ → World → Sort → CType → Typed
typed_as whole n w (sort.Object i is_fixed) t = lvalue_of t (fixed_address w is_fixed i t)
typed_as whole n w (sort.Function i) t = pointer_of t (typed.function_address (function_binding whole n i))
typed_as whole n w (sort.Enumerator z) t = constant_of t (is z)
typed_as whole n w sort.Alias t = value_of t

-- a name that stands for something of this sort and type
abbrev pub name_as : Whole → At → List ℕ → Sort → CType → M Typed
name_as whole at n s t = do
  w ← world
  keep 1 at (not (is_alias s))
  change (note_bound at.id (bound whole n s))
  done at (typed_as whole n w s t)

-- ---- constants

abbrev pub number_done : At → Number → M Typed
number_done at z = do
  change (note_constant at.id (Some (val.Number z.value)))
  done at (constant_of (Int z.kind) (is z.value))

abbrev pub text_type : ℕ → CType
text_type n = Array (Int k.Char) (suc n)

-- ---- equality and choice

abbrev pub are_beside_void : CType → CType → Bool
are_beside_void t u = (is_pointer t && is_void_pointer u) || (is_void_pointer t && is_pointer u)

abbrev pub are_objects_beside_void : CType → CType → Bool
are_objects_beside_void t u = (is_object_pointer t && is_void_pointer u) || (is_void_pointer t && is_object_pointer u)

abbrev pub are_beside_null : CType → CType → Typed → Typed → Bool
are_beside_null t u x y = is_beside_null t y || is_beside_null u x

-- ---- conversion as by assignment, to a pointer or to `_Bool`

abbrev pub fits_scalar : (to from : CType) → Typed → Bool
fits_scalar to a x = (is_bool to && is_pointer a) || is_beside_null to x || (is_pointer to && is_pointer a && fits_pointer to a)

-- ---- casts

abbrev pub are_pointers_of_a_sort : CType → CType → Bool
are_pointers_of_a_sort t u = (is_object_pointer t && is_object_pointer u) || (is_function_pointer t && is_function_pointer u)

abbrev pub casts : (to from : CType) → Typed → Bool
casts t u x =
    is_void t || are_integers t u || (is_object_pointer t && is_object_pointer u) || (is_function_pointer t && is_function_pointer u)
    || is_beside_null t x || (is_bool t && is_pointer u)

-- whether a cast to this type makes 0 a null pointer constant (6.3.2.3, paragraph 3)
abbrev pub is_null_type : CType → Bool
is_null_type t = equal (canonical t) (Pointer Void)

abbrev pub is_null_cast : CType → Constant → Bool
is_null_cast t c = is_null_type t && is_zero_constant c

abbrev pub cast_typed : CType → Typed → Typed
cast_typed t x = record {
  type = t;
  is_lvalue = false;
  value = cast_constant t x.value;
  is_null = is_null_cast t x.value;
  address = cast_address t x;
  text = None;
}

-- ---- operators with two operands; t and u are the settled types of x and y

abbrev pub are_scalars : CType → CType → Bool
are_scalars t u = is_scalar t && is_scalar u

abbrev pub shifted_type : CType → CType
shifted_type t = Int (promoted (kind_of t))

abbrev pub difference_address : World → CType → CType → Typed → Typed → typed.Address
difference_address w t u x y = if is_pointer t && is_integer u then moved_by w t (back y.value) (pointed x) else typed.no_address

abbrev pub binary_typed : World → BinaryOp → CType → CType → Typed → Typed → Typed
binary_typed w o t u x y = record (constant_of (binary_type o t u) (value_between o t u x y)) { address = binary_address w o t u x y }

abbrev pub binary_settled : At → BinaryOp → CType → CType → Typed → Typed → M Typed
binary_settled at o t u x y = do
  w ← world
  keep (binary_rule o) at (takes w o t u x y)
  done at (binary_typed w o t u x y)

abbrev pub index_settled : At → CType → CType → Typed → Typed → M Typed
index_settled at t u x y = do
  w ← world
  keep 28 at (can_be_indexed w t u)
  done at (followed (pointee (sum_type t u)) (sum_address w t u x y))

abbrev pub takes_settled : World → BinaryOp → CType → CType → Typed → Typed → Bool
takes_settled w o t u x y = is_modifiable w x && takes w o t u x y && is_integer u

abbrev pub compound_settled : At → BinaryOp → CType → CType → Typed → Typed → M Typed
compound_settled at o t u x y = do
  w ← world
  keep 25 at (takes_settled w o t u x y)
  done at (value_of x.type)

-- ---- ?:, of a condition of the settled type s and the value c, and branches whose types are decayed

abbrev pub are_all_integers : (s a b : CType) → Bool
are_all_integers s a b = is_integer s && are_integers a b

abbrev pub chosen_value : CType → Constant → Typed → Typed → Constant
chosen_value s c x y =
    if are_all_integers s (plain x.type) (plain y.type)
    then cond_of (common_kind (kind_of (plain x.type)) (kind_of (plain y.type))) c x.value y.value
    else varies

abbrev pub type_chosen : Typed → Typed → CType
type_chosen x y = chosen_type x.type y.type (plain x.type) (plain y.type) x y

abbrev pub cond_typed : CType → Constant → Typed → Typed → Typed
cond_typed s c x y = constant_of (type_chosen x y) (chosen_value s c x y)

abbrev pub branches_agree : Typed → Typed → Bool
branches_agree x y = can_be_chosen (plain x.type) (plain y.type) x y

abbrev pub cond_decayed : At → CType → Constant → Typed → Typed → M Typed
cond_decayed at s c x y = do
  keep 21 at (is_scalar s)
  keep 22 at (branches_agree x y)
  done at (cond_typed s c x y)

-- an operand with the type of its value as written
abbrev pub as_decayed : Typed → Typed
as_decayed x = record x { type = decayed x.type }

-- the type of two branches that are pointers, or a pointer and a null pointer constant
abbrev pub pointer_joined : (t u a b : CType) → CType
pointer_joined t u a b =
    if are_alike a b then joined t b
    else if is_void_pointer a then joined t b
    else joined u a

-- the first one is a pointer beside a null pointer constant, the second no pointer to a compatible type; and the other way round
abbrev pub goes_by_null : (a b : CType) → Typed → Bool
goes_by_null a b y = is_beside_null a y && not (are_alike a b)

abbrev pub null_goes_by : (a b : CType) → Typed → Bool
null_goes_by a b x = is_beside_null b x && not (are_alike a b)

abbrev pub pointer_chosen : Typed → Typed → CType
pointer_chosen x y =
    if goes_by_null (plain x.type) (plain y.type) y then x.type
    else if null_goes_by (plain x.type) (plain y.type) x then y.type
    else pointer_joined x.type y.type (plain x.type) (plain y.type)

-- ---- assignment

-- the right operand is converted to this type, and the result has the left one's
abbrev pub set_done : At → At → (to t : CType) → M Typed
set_done at y_at to t = do
  convert_to y_at to
  done at (value_of (assigned_type t))

abbrev pub set_as : At → (to : CType) → (fits : Bool) → Typed → At → M Typed
set_as at to fits x y_at = do
  w ← world
  keep 23 at fits
  keep 24 at (is_modifiable w x)
  set_done at y_at to x.type

-- ---- calls, of a value of the type f, which points to a type that is t behind its typedef names and qualifiers

-- whether a value is converted to the first of these parameters, where there is one
abbrev pub converts_first : CTypes → Typed → Option Bool
converts_first no_types x = None
converts_first (one_type p ps) x = Some (converts p x)

abbrev pub takes_so_many : CType → ℕ → Bool
takes_so_many t n = is_function (plain t) && (count_types (parameters_of (plain t)) == n)

abbrev pub arguments_fit : (f t : CType) → List Given → Bool
arguments_fit f t xs = not (is_function_pointer f) || all_convert (parameters_of t) (all_typed xs)

abbrev pub call_done : At → CType → List Given → M Typed
call_done at t xs = do
  convert_all (parameters_of t) xs
  done at (value_of (result_of t))

abbrev pub called_as : At → (fits : Bool) → (f t : CType) → List Given → M Typed
called_as at fits f t xs = do
  keep 23 at fits
  keep 27 at (can_be_called f (length xs))
  call_done at t xs

-- ---- the builtin, by whether it stands in a constant expression, and whether its arguments hold the body of a type

abbrev pub is_unfixed : (fixed has_body : Bool) → Bool
is_unfixed fixed has_body = not fixed && not has_body

abbrev pub judge_unfixed : (fixed has_body : Bool) → At → M Typed
judge_unfixed fixed has_body at = do
  x ← done at (value_of (Int k.ULong))
  keep 36 at (is_unfixed fixed has_body)
  give x

-- ---- members

-- the member of this name of a struct or union that is an lvalue or not, and stands there
abbrev pub member_done : At → (qualifiers : ℕ) → CType → (is_lvalue : Bool) → typed.Address → M Typed
member_done at q t is_lvalue address = done at (record (lvalue_of (with_qualifiers q t) address) { is_lvalue = is_lvalue })

abbrev pub member_as : At → CType → List ℕ → (is_lvalue : Bool) → typed.Address → M Typed
member_as at t n is_lvalue address = do
  w ← world
  keep 29 at (has_member w (plain t) n)
  done at (record (lvalue_of (member_type w t n) (member_address w t n address)) { is_lvalue = is_lvalue })
