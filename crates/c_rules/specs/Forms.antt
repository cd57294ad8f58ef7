-- What each form of expression is tried for, and what is known of it (ISO/IEC 9899:2018, 6.5); its parts are known.
use Rattle.std.specs.Prelude.{ℕ, suc, Bool, true, false, ◌&&◌, ◌||◌, not, if◌then◌else◌, List, [], ◌∷◌, length, map, is_some, Option, Some, None, unwrap_or, pos, ◌*ℤ◌, ◌-ℤ◌}
use Rattle.num_ops.specs.declared.kinds.IntKind.TheVariants as k
use Rattle.num_ops.specs.declared.arithmetic.Op.TheVariants as op
use Rattle.num_ops.specs.declared.shifts.Cmp.TheVariants as cmp
use Rattle.std.specs.Option.{option_map}
use Rattle.num_ops.specs.Conversions.{common_kind, promoted}
use Rattle.num_ops.specs.Numbers.{Number}
use Rattle.c_tree.specs.declared.operator.At.{At}
use Rattle.c_tree.specs.Text.{same_text}
use Rattle.c_tree.specs.Tree.{BinaryOp, Or, And, BitOr, BitXor, BitAnd, Eq, Ne, Lt, Gt, Le, Ge, Shl, Shr, Add, Sub, Mul, Div, Rem, AssignOp, Set, MulSet, DivSet, RemSet, AddSet, SubSet, ShlSet, ShrSet, AndSet, XorSet, OrSet, PrefixOp, Increment, Decrement, Address, Deref, Positive, Negative, Complement, Not}
use Rattle.c_types.specs.CTypes.{CType, CTypes, Void, Int, Pointer, Array, no_types, one_type}
use Rattle.c_types.specs.Canonical.{canonical}
use Rattle.c_types.specs.Compatible.{equal}
use Rattle.c_types.specs.Plain.{plain, result_of, parameters_of, is_function}
use Rattle.c_types.specs.Records.{members_of, offset_at}
use Rattle.name_places.specs.Placed.{place_of}
use Rattle.c_constants.specs.Integers.{constant_of as number_of}
use Rattle.c_constants.specs.Literals.{char_value, text_length}
use Rattle.c_rules.specs.Types.{decayed, settled, pointee, is_integer, is_pointer, is_record, is_scalar, kind_of}
use Rattle.c_rules.specs.Typed as a
use Rattle.c_rules.specs.Typed.{Typed, Constant, varies, undefined, is, value_of, lvalue_of, constant_of, pointer_of, is_null_constant, is_zero_constant, pointed, moved}
use Rattle.c_rules.specs.World as world
use Rattle.c_rules.specs.World.{World, Entry, find_name, is_listed, is_complete, size_in, note_type, note_target, note_binding, note_constant}
use Rattle.c_rules.specs.Trials.{M, give, ◌>>=◌, ◌>>◌, keep, world, change}
use Rattle.c_rules.specs.Constants.{arithmetic_of, shift_of, comparison_of, and_of, or_of, cond_of, minus_of, complement_of, not_of, cast_of}
use Rattle.c_rules.specs.Expressions.{is_function_pointer, are_integers, can_be_followed, has_address, is_modifiable, can_step, can_be_added, can_be_subtracted, can_be_ordered, can_be_equal, can_be_chosen, converts, can_be_cast, can_be_called, all_convert, can_be_indexed, has_member, is_lvalue_record, common_type, sum_type, chosen_type, member_type}
use Rattle.c_rules.specs.Names.{names_value, library, Prototype}
use Rattle.c_rules.specs.declared.known.Binding.{Binding}
use Rattle.c_rules.specs.declared.known.Binding.TheVariants as to
use Rattle.c_rules.specs.declared.known.ConstantValue.TheVariants as val
use Rattle.c_rules.specs.declared.known.Sort.{Sort}
use Rattle.c_rules.specs.declared.known.Sort.TheVariants as sort

-- what the unit has, wherever it stands: the functions with a body, and the objects that file scope defines
pub record Whole : Type 0 where
  pub bodies : List (List ℕ)
  pub objects : List (List ℕ)

-- an argument with its node
pub record Given : Type 0 where
  pub at : At
  pub typed : Typed

-- every expression is tried for 31, and its type is noted
abbrev pub done : At → Typed → M Typed
done at x = do
  keep 31 at (is_lvalue_record x)
  change (note_type at.id x.type)
  give x

-- the expression with this node is converted as by assignment
abbrev pub convert_to : At → CType → M (Unit {0})
convert_to at t = change (note_target at.id t)

-- ---- names and constants

abbrev pub fixed_address : World → Bool → ℕ → CType → a.Address
fixed_address w true n t = a.in_object n (unwrap_or (size_in w t) 0) (pos 0)
fixed_address w false n t = a.no_address

abbrev pub number_in : ℕ → List ℕ → List Prototype → Option ℕ
number_in i n [] = None
number_in i n (x ∷ xs) = if same_text n x.name then Some i else number_in (suc i) n xs

-- a library function has no body in the unit
abbrev pub function_binding : Whole → List ℕ → ℕ → Binding
function_binding whole n number = of_library (if is_listed n whole.bodies then None else number_in 0 n library)
  where
    of_library : Option ℕ → Binding
    of_library (Some i) = to.Library i
    of_library None = to.Function number

abbrev pub bound : Whole → List ℕ → Sort → Option Binding
bound whole n (sort.Object i is_fixed) = Some (to.Object i)
bound whole n (sort.Function i) = Some (function_binding whole n i)
bound whole n (sort.Enumerator z) = Some (to.Enumerator z)
bound whole n sort.Alias = None

abbrev pub note_bound : ℕ → Option Binding → World → World
note_bound id None w = w
note_bound id (Some b) w = note_binding id b w

abbrev pub binding_of : Whole → List ℕ → Option Entry → Option Binding
binding_of whole n None = None
binding_of whole n (Some e) = bound whole n e.sort

abbrev pub typed_entry : Whole → List ℕ → World → Option Entry → Typed
typed_entry whole n w None = value_of (Int k.Int)
typed_entry whole n w (Some e) = of_sort e.sort e.type
  where
    of_sort : Sort → CType → Typed
    of_sort (sort.Object i is_fixed) t = lvalue_of t (fixed_address w is_fixed i t)
    of_sort (sort.Function i) t = pointer_of t (a.function_address (function_binding whole n i))
    of_sort (sort.Enumerator z) t = constant_of t (is z)
    of_sort sort.Alias t = value_of t

abbrev pub judge_name : Whole → At → List ℕ → M Typed
judge_name whole at n = do
  w ← world
  keep 1 at (names_value (find_name n w))
  change (note_bound at.id (binding_of whole n (find_name n w)))
  done at (typed_entry whole n w (find_name n w))

-- 12: a constant that none of the types of its list can represent is none (6.4.4.1, paragraph 6)
abbrev pub typed_number : Option Number → Typed
typed_number None = constant_of (Int k.Int) undefined
typed_number (Some z) = constant_of (Int z.kind) (is z.value)

abbrev pub judge_number : At → List ℕ → M Typed
judge_number at n = do
  keep 12 at (is_some (number_of n))
  change (note_constant at.id (option_map (λ z. val.Number z.value) (number_of n)))
  done at (typed_number (number_of n))

abbrev pub judge_char : At → List ℕ → M Typed
judge_char at c = do
  change (note_constant at.id (Some (val.Number (char_value c))))
  done at (constant_of (Int k.Int) (is (char_value c)))

abbrev pub judge_text : At → List (List ℕ) → M Typed
judge_text at ts =
    done at (record (lvalue_of (Array (Int k.Char) (suc (text_length ts))) (a.text_address at.id)) { text = Some (text_length ts) })

abbrev pub judge_paren : At → Typed → M Typed
judge_paren at x = done at (record x { text = None })

-- ---- operators with one operand

-- the object or function that & gives the address of
abbrev pub taken_address : a.Address → a.Address
taken_address (a.in_object n size at) = a.in_object n size at
taken_address (a.function_address b) = a.function_address b
taken_address a.no_address = a.no_address
taken_address a.null_address = a.no_address
taken_address (a.text_address node) = a.no_address

abbrev pub judge_step : At → Typed → M Typed
judge_step at x = do
  w ← world
  keep 16 at (can_step w x)
  done at (value_of x.type)

abbrev pub judge_address : At → Typed → M Typed
judge_address at x = do
  keep 15 at (has_address x)
  done at (pointer_of (Pointer x.type) (taken_address x.address))

-- 6.5.3.2, paragraph 4: an lvalue, or a function
abbrev pub followed : CType → a.Address → Typed
followed t at = record (pointer_of t (taken_address at)) { is_lvalue = not (is_function (plain t)) }

abbrev pub judge_deref : At → Typed → M Typed
judge_deref at x = do
  w ← world
  keep 14 at (can_be_followed w (settled x.type))
  done at (followed (pointee (settled x.type)) (pointed x))

abbrev pub promoted_type : Typed → CType
promoted_type x = Int (promoted (kind_of (plain x.type)))

abbrev pub judge_sign : At → Typed → Constant → M Typed
judge_sign at x c = do
  keep 13 at (is_integer (settled x.type))
  done at (constant_of (promoted_type x) c)

abbrev pub judge_not : At → Typed → M Typed
judge_not at x = do
  keep 13 at (is_scalar (settled x.type))
  done at (constant_of (Int k.Int) (not_of x.value))

abbrev pub judge_prefix : At → PrefixOp → Typed → M Typed
judge_prefix at Increment x = judge_step at x
judge_prefix at Decrement x = judge_step at x
judge_prefix at Address x = judge_address at x
judge_prefix at Deref x = judge_deref at x
judge_prefix at Positive x = judge_sign at x (cast_of (promoted (kind_of (plain x.type))) x.value)
judge_prefix at Negative x = judge_sign at x (minus_of (kind_of (plain x.type)) x.value)
judge_prefix at Complement x = judge_sign at x (complement_of (kind_of (plain x.type)) x.value)
judge_prefix at Not x = judge_not at x

abbrev pub size_constant : Option ℕ → Constant
size_constant (Some n) = is (pos n)
size_constant None = varies

abbrev pub judge_sizeof : At → CType → M Typed
judge_sizeof at t = do
  w ← world
  keep 30 at (is_complete w t)
  done at (constant_of (Int k.ULong) (size_constant (size_in w t)))

-- ---- casts

abbrev pub cast_constant : CType → Constant → Constant
cast_constant t c = if is_integer (plain t) then cast_of (kind_of (plain t)) c else varies

abbrev pub cast_address : CType → Typed → a.Address
cast_address t x =
    if not (is_pointer (plain t)) then a.no_address
    else if is_null_constant x then a.null_address
    else pointed x

abbrev pub judge_cast : At → CType → Typed → M Typed
judge_cast at t x = do
  keep 26 at (can_be_cast t x)
  done at (record {
    type = t;
    is_lvalue = false;
    value = cast_constant t x.value;
    is_null = equal (canonical t) (Pointer Void) && is_zero_constant x.value;
    address = cast_address t x;
    text = None;
  })

-- ---- operators with two operands

abbrev pub binary_rule : BinaryOp → ℕ
binary_rule Mul = 17
binary_rule Div = 17
binary_rule Rem = 17
binary_rule BitAnd = 17
binary_rule BitXor = 17
binary_rule BitOr = 17
binary_rule Shl = 17
binary_rule Shr = 17
binary_rule Add = 18
binary_rule Sub = 18
binary_rule Lt = 19
binary_rule Gt = 19
binary_rule Le = 19
binary_rule Ge = 19
binary_rule Eq = 20
binary_rule Ne = 20
binary_rule And = 21
binary_rule Or = 21

-- by the rule: t and u are the settled types of x and y
abbrev pub takes : World → BinaryOp → CType → CType → Typed → Typed → Bool
takes w Add t u x y = can_be_added w t u
takes w Sub t u x y = can_be_subtracted w t u
takes w Lt t u x y = can_be_ordered t u
takes w Gt t u x y = can_be_ordered t u
takes w Le t u x y = can_be_ordered t u
takes w Ge t u x y = can_be_ordered t u
takes w Eq t u x y = can_be_equal t u x y
takes w Ne t u x y = can_be_equal t u x y
takes w And t u x y = is_scalar t && is_scalar u
takes w Or t u x y = is_scalar t && is_scalar u
takes w Mul t u x y = are_integers t u
takes w Div t u x y = are_integers t u
takes w Rem t u x y = are_integers t u
takes w BitAnd t u x y = are_integers t u
takes w BitXor t u x y = are_integers t u
takes w BitOr t u x y = are_integers t u
takes w Shl t u x y = are_integers t u
takes w Shr t u x y = are_integers t u

-- the difference of two pointers is a long
abbrev pub difference_type : CType → CType → CType
difference_type t u = if is_pointer t && is_pointer u then Int k.Long else sum_type t u

abbrev pub binary_type : BinaryOp → CType → CType → CType
binary_type Add t u = sum_type t u
binary_type Sub t u = difference_type t u
binary_type Mul t u = common_type t u
binary_type Div t u = common_type t u
binary_type Rem t u = common_type t u
binary_type BitAnd t u = common_type t u
binary_type BitXor t u = common_type t u
binary_type BitOr t u = common_type t u
binary_type Shl t u = Int (promoted (kind_of t))
binary_type Shr t u = Int (promoted (kind_of t))
binary_type Lt t u = Int k.Int
binary_type Gt t u = Int k.Int
binary_type Le t u = Int k.Int
binary_type Ge t u = Int k.Int
binary_type Eq t u = Int k.Int
binary_type Ne t u = Int k.Int
binary_type And t u = Int k.Int
binary_type Or t u = Int k.Int

abbrev pub binary_value : BinaryOp → CType → CType → Constant → Constant → Constant
binary_value Add t u c d = arithmetic_of op.Add (kind_of t) (kind_of u) c d
binary_value Sub t u c d = arithmetic_of op.Sub (kind_of t) (kind_of u) c d
binary_value Mul t u c d = arithmetic_of op.Mul (kind_of t) (kind_of u) c d
binary_value Div t u c d = arithmetic_of op.Div (kind_of t) (kind_of u) c d
binary_value Rem t u c d = arithmetic_of op.Rem (kind_of t) (kind_of u) c d
binary_value BitAnd t u c d = arithmetic_of op.BitAnd (kind_of t) (kind_of u) c d
binary_value BitXor t u c d = arithmetic_of op.BitXor (kind_of t) (kind_of u) c d
binary_value BitOr t u c d = arithmetic_of op.BitOr (kind_of t) (kind_of u) c d
binary_value Shl t u c d = shift_of true (kind_of t) (kind_of u) c d
binary_value Shr t u c d = shift_of false (kind_of t) (kind_of u) c d
binary_value Lt t u c d = comparison_of cmp.Lt (kind_of t) (kind_of u) c d
binary_value Gt t u c d = comparison_of cmp.Gt (kind_of t) (kind_of u) c d
binary_value Le t u c d = comparison_of cmp.Le (kind_of t) (kind_of u) c d
binary_value Ge t u c d = comparison_of cmp.Ge (kind_of t) (kind_of u) c d
binary_value Eq t u c d = comparison_of cmp.Eq (kind_of t) (kind_of u) c d
binary_value Ne t u c d = comparison_of cmp.Ne (kind_of t) (kind_of u) c d
binary_value And t u c d = and_of c d
binary_value Or t u c d = or_of c d

-- so many elements further
abbrev pub moved_by : World → CType → Constant → a.Address → a.Address
moved_by w t varies at = a.no_address
moved_by w t undefined at = a.no_address
moved_by w t (is z) at = moved (z *ℤ pos (unwrap_or (size_in w (pointee t)) 0)) at

abbrev pub back : Constant → Constant
back varies = varies
back undefined = undefined
back (is z) = is (pos 0 -ℤ z)

abbrev pub sum_address : World → CType → CType → Typed → Typed → a.Address
sum_address w t u x y =
    if is_pointer t && is_integer u then moved_by w t y.value (pointed x)
    else if is_integer t && is_pointer u then moved_by w u x.value (pointed y)
    else a.no_address

abbrev pub binary_address : World → BinaryOp → CType → CType → Typed → Typed → a.Address
binary_address w Add t u x y = sum_address w t u x y
binary_address w Sub t u x y = if is_pointer t && is_integer u then moved_by w t (back y.value) (pointed x) else a.no_address
binary_address w o t u x y = a.no_address

-- only integers make integer constants
abbrev pub value_between : BinaryOp → CType → CType → Typed → Typed → Constant
value_between o t u x y = if are_integers t u then binary_value o t u x.value y.value else varies

abbrev pub judge_binary : At → BinaryOp → Typed → Typed → M Typed
judge_binary at o x y = do
  w ← world
  keep (binary_rule o) at (takes w o (settled x.type) (settled y.type) x y)
  done at (record (constant_of (binary_type o (settled x.type) (settled y.type)) (value_between o (settled x.type) (settled y.type) x y)) {
    address = binary_address w o (settled x.type) (settled y.type) x y;
  })

abbrev pub judge_index : At → Typed → Typed → M Typed
judge_index at x y = do
  w ← world
  keep 28 at (can_be_indexed w (settled x.type) (settled y.type))
  done at (followed (pointee (sum_type (settled x.type) (settled y.type))) (sum_address w (settled x.type) (settled y.type) x y))

abbrev pub judge_comma : At → Typed → M Typed
judge_comma at y = done at (value_of (decayed y.type))

-- ---- ?:

abbrev pub cond_value : Typed → Typed → Typed → Constant
cond_value c x y =
    if is_integer (settled c.type) && are_integers (settled x.type) (settled y.type)
    then cond_of (common_kind (kind_of (settled x.type)) (kind_of (settled y.type))) c.value x.value y.value
    else varies

abbrev pub judge_cond : At → Typed → Typed → Typed → M Typed
judge_cond at c x y = do
  keep 21 at (is_scalar (settled c.type))
  keep 22 at (can_be_chosen (settled x.type) (settled y.type) x y)
  done at (constant_of (chosen_type (decayed x.type) (decayed y.type) (settled x.type) (settled y.type) x y) (cond_value c x y))

-- ---- assignment

-- the operator of a compound assignment
abbrev pub operator_of : AssignOp → Option BinaryOp
operator_of Set = None
operator_of MulSet = Some Mul
operator_of DivSet = Some Div
operator_of RemSet = Some Rem
operator_of AddSet = Some Add
operator_of SubSet = Some Sub
operator_of ShlSet = Some Shl
operator_of ShrSet = Some Shr
operator_of AndSet = Some BitAnd
operator_of XorSet = Some BitXor
operator_of OrSet = Some BitOr

-- the assignment of a record has type void
abbrev pub assigned_type : CType → CType
assigned_type t = if is_record (plain t) then Void else t

abbrev pub judge_set : At → Typed → At → Typed → M Typed
judge_set at x y_at y = do
  w ← world
  keep 23 at (converts (decayed x.type) y)
  keep 24 at (is_modifiable w x)
  convert_to y_at (decayed x.type)
  done at (value_of (assigned_type x.type))

-- 25: a modifiable lvalue on the left, and what the operator takes; a pointer only on the left of += and -=
abbrev pub takes_compound : World → BinaryOp → Typed → Typed → Bool
takes_compound w o x y =
    is_modifiable w x && takes w o (settled x.type) (settled y.type) x y && is_integer (settled y.type)

abbrev pub judge_compound : At → BinaryOp → Typed → Typed → M Typed
judge_compound at o x y = do
  w ← world
  keep 25 at (takes_compound w o x y)
  done at (value_of x.type)

abbrev pub judge_assign : At → Option BinaryOp → Typed → At → Typed → M Typed
judge_assign at None x y_at y = judge_set at x y_at y
judge_assign at (Some o) x y_at y = judge_compound at o x y

-- ---- calls

abbrev pub all_typed : List Given → List Typed
all_typed [] = []
all_typed (x ∷ xs) = x.typed ∷ all_typed xs

abbrev pub convert_all : CTypes → List Given → M (Unit {0})
convert_all no_types xs = give tt
convert_all (one_type p ps) [] = give tt
convert_all (one_type p ps) (x ∷ xs) = do
  convert_to x.at p
  convert_all ps xs

-- a call through a value of type f, which points to the type t
abbrev pub judge_called : At → CType → CType → List Given → M Typed
judge_called at f t xs = do
  keep 23 at (not (is_function_pointer f) || all_convert (parameters_of t) (all_typed xs))
  keep 27 at (can_be_called f (length xs))
  convert_all (parameters_of t) xs
  done at (value_of (result_of t))

abbrev pub judge_call : At → Typed → List Given → M Typed
judge_call at f xs = judge_called at (settled f.type) (plain (pointee (settled f.type))) xs

-- ---- members

-- so many bytes into the record its member of this name stands
abbrev pub offset_of : World → CType → List ℕ → ℕ
offset_of w t n = unwrap_or (option_map (offset_at w.records.layouts t) (place_of n (map (λ m. m.name) (members_of w.records.members t)))) 0

abbrev pub member_address : World → CType → List ℕ → a.Address → a.Address
member_address w t n at = moved (pos (offset_of w t n)) (taken_address at)

abbrev pub judge_dot : At → Typed → List ℕ → M Typed
judge_dot at x n = do
  w ← world
  keep 29 at (has_member w (plain x.type) n)
  done at (record (lvalue_of (member_type w x.type n) (member_address w x.type n x.address)) { is_lvalue = x.is_lvalue })

abbrev pub judge_arrow : At → Typed → List ℕ → M Typed
judge_arrow at x n = do
  w ← world
  keep 29 at (is_pointer (settled x.type) && has_member w (plain (pointee (settled x.type))) n)
  done at (lvalue_of (member_type w (pointee (settled x.type)) n) (member_address w (pointee (settled x.type)) n (pointed x)))
