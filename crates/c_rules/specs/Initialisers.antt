-- Rules 10, 11 and 23 of an initialiser (ISO/IEC 9899:2018, 6.7.9).
use Rattle.std.specs.Prelude.{ℕ, zero, suc, nat_le, Bool, true, false, ◌&&◌, ◌||◌, not, if◌then◌else◌, List, [], ◌∷◌, Option, Some, None, is_some}
use Rattle.c_tree.specs.declared.operator.At.{At}
use Rattle.c_types.specs.CTypes.{CType, Void, Int, Enum, Pointer, Array, Flexible, Function, Record, Named, Qualified, is_flexible}
use Rattle.c_types.specs.Plain.{plain}
use Rattle.c_types.specs.Records.{MemberOf, members_at, is_union_at}
use Rattle.c_rules.specs.Types.{settled, is_char, is_record, is_scalar}
use Rattle.c_rules.specs.Typed.{Typed, Constant, varies, undefined, is, Address, no_address, null_address, function_address, text_address, in_object, is_null_constant, pointed, constant_value}
use Rattle.c_rules.specs.World.{World, note_target, note_constant}
use Rattle.c_rules.specs.Expressions.{converts}

-- an initialiser with what is known of its expressions
mutual
  pub data Given : Type 0 where
    one : At → Typed → Given
    many : Givens → Given

  pub data Givens : Type 0 where
    no_more : Givens
    given : Given → Givens → Givens

-- ---- what the parts of a type are

-- a string literal that fits an array of a char type, perhaps without its zero (6.7.9, paragraph 14)
abbrev pub text_fits : CType → Option ℕ → Bool
text_fits (Array t n) (Some m) = is_char (plain t) && nat_le m n
text_fits (Array t n) None = false
text_fits t m = false

-- the members that take an entry: all but an array without a length, of a union the first
abbrev pub sized_members : List MemberOf → List CType
sized_members [] = []
sized_members (m ∷ ms) = if is_flexible m.type then [] else m.type ∷ sized_members ms

abbrev pub first_alone : Bool → List CType → List CType
first_alone true (t ∷ ts) = t ∷ []
first_alone true [] = []
first_alone false ts = ts

-- the types of the entries that braces give a type: the same for each of n, or one for each
pub data Parts : Type 0 where
  each : ℕ → CType → Parts
  listed : List CType → Parts

abbrev pub parts_of : World → CType → Parts
parts_of w (Array t n) = each n t
parts_of w (Record k) = listed (first_alone (is_union_at w.records.heads k) (sized_members (members_at w.records.members k)))
parts_of w (Int k) = each 1 (Int k)
parts_of w (Enum e) = each 1 (Enum e)
parts_of w (Pointer t) = each 1 (Pointer t)
parts_of w Void = listed []
parts_of w (Flexible t) = listed []
parts_of w (Function r ps) = listed []
parts_of w (Named n t) = listed []
parts_of w (Qualified q t) = listed []

abbrev pub has_part : Parts → Bool
has_part (each zero t) = false
has_part (each (suc n) t) = true
has_part (listed []) = false
has_part (listed (t ∷ ts)) = true

abbrev pub first_part : Parts → CType
first_part (each n t) = t
first_part (listed []) = Void
first_part (listed (t ∷ ts)) = t

abbrev pub other_parts : Parts → Parts
other_parts (each zero t) = each zero t
other_parts (each (suc n) t) = each n t
other_parts (listed []) = listed []
other_parts (listed (t ∷ ts)) = listed ts

-- ---- 10: an initialiser fits. In the braces of a scalar stands an expression without braces

abbrev pub is_one : Given → Bool
is_one (one at x) = true
is_one (many gs) = false

abbrev mutual
  pub initialises : World → CType → Given → Bool
  initialises w t (one at x) = is_scalar (plain t) || text_fits (plain t) x.text
  initialises w t (many gs) = all_initialise w (is_scalar (plain t)) (parts_of w (plain t)) gs

  pub all_initialise : World → (in_scalar : Bool) → Parts → Givens → Bool
  all_initialise w in_scalar ps no_more = true
  all_initialise w in_scalar ps (given g gs) =
      has_part ps && (not in_scalar || is_one g) && initialises w (first_part ps) g
      && all_initialise w in_scalar (other_parts ps) gs

-- a record local may have a record expression
abbrev pub is_record_value : Given → Bool
is_record_value (one at x) = is_record (settled x.type)
is_record_value (many gs) = false

abbrev pub may_initialise : World → (is_fixed : Bool) → CType → Given → Bool
may_initialise w is_fixed t g =
    initialises w t g || (not is_fixed && is_record (plain t) && is_record_value g)

-- ---- 11: integer constant expressions, null constants, string literals, functions, and addresses of static objects

abbrev pub has_address : Address → Bool
has_address no_address = false
has_address null_address = true
has_address (function_address b) = true
has_address (text_address node) = true
has_address (in_object number size at) = true

abbrev pub has_value : Constant → Bool
has_value (is z) = true
has_value varies = false
has_value undefined = false

abbrev pub is_fixed_value : Typed → Bool
is_fixed_value x = has_value x.value || is_null_constant x || is_some x.text || has_address (pointed x)

abbrev mutual
  pub is_fixed_given : Given → Bool
  is_fixed_given (one at x) = is_fixed_value x
  is_fixed_given (many gs) = are_fixed_given gs

  pub are_fixed_given : Givens → Bool
  are_fixed_given no_more = true
  are_fixed_given (given g gs) = is_fixed_given g && are_fixed_given gs

-- ---- 23: each expression is converted to the type of its part, but for a string literal that gives an array its bytes

abbrev mutual
  pub converts_given : World → CType → Given → Bool
  converts_given w t (one at x) = text_fits (plain t) x.text || converts t x
  converts_given w t (many gs) = all_converted w (parts_of w (plain t)) gs

  pub all_converted : World → Parts → Givens → Bool
  all_converted w ps no_more = true
  all_converted w ps (given g gs) = converts_given w (first_part ps) g && all_converted w (other_parts ps) gs

-- and this type is noted at the expression
abbrev mutual
  pub with_targets : CType → Given → World → World
  with_targets t (one at x) w = if text_fits (plain t) x.text then w else note_target at.id t w
  with_targets t (many gs) w = with_all_targets (if is_scalar (plain t) then each 1 t else parts_of w (plain t)) gs w

  pub with_all_targets : Parts → Givens → World → World
  with_all_targets ps no_more w = w
  with_all_targets ps (given g gs) w = with_all_targets (other_parts ps) gs (with_targets (first_part ps) g w)

-- at each expression that gives a static scalar its value, this value is noted
abbrev mutual
  pub with_constants : CType → Given → World → World
  with_constants t (one at x) w = if text_fits (plain t) x.text then w else note_constant at.id (constant_value x) w
  with_constants t (many gs) w = with_all_constants (parts_of w (plain t)) gs w

  pub with_all_constants : Parts → Givens → World → World
  with_all_constants ps no_more w = w
  with_all_constants ps (given g gs) w = with_all_constants (other_parts ps) gs (with_constants (first_part ps) g w)
