-- What is known of an expression (ISO/IEC 9899:2018, 6.3.2.1, 6.6).
use Rattle.std.specs.Prelude.{ℕ, Bool, true, false, ◌&&◌, ◌||◌, if◌then◌else◌, Option, Some, None, ℤ, pos, ◌+ℤ◌, int_le}
use Rattle.num_ops.specs.Conversions.{is_zero}
use Rattle.c_types.specs.CTypes.{CType}
use Rattle.c_types.specs.Plain.{plain}
use Rattle.c_rules.specs.Types.{is_array}
use Rattle.c_rules.specs.declared.known.Binding.{Binding}
use Rattle.c_rules.specs.declared.known.ConstantValue.{ConstantValue}
use Rattle.c_rules.specs.declared.known.ConstantValue.TheVariants as val

-- an integer constant expression (6.6, paragraph 6): there is none, or its evaluation is undefined, or it has a value
pub data Constant : Type 0 where
  varies : Constant
  undefined : Constant
  is : ℤ → Constant

-- a constant of a pointer's value, or of where an lvalue is (6.6, paragraph 9): so many bytes into an object of static storage,
-- by its number and size
pub data Address : Type 0 where
  no_address : Address
  null_address : Address
  function_address : Binding → Address
  -- of a string literal, by the number of its node
  text_address : ℕ → Address
  in_object : (number size : ℕ) → (offset : ℤ) → Address

pub record Typed : Type 0 where
  -- its type as written, before an array or a function becomes a pointer
  pub type : CType
  pub is_lvalue : Bool
  pub value : Constant
  -- an integer constant expression of value 0, cast to `void *`
  pub is_null : Bool
  pub address : Address
  -- a string literal alone: its bytes, without the zero behind them
  pub text : Option ℕ

abbrev pub is_zero_constant : Constant → Bool
is_zero_constant (is z) = is_zero z
is_zero_constant varies = false
is_zero_constant undefined = false

-- null pointer constant (6.3.2.3, paragraph 3)
abbrev pub is_null_constant : Typed → Bool
is_null_constant x = is_zero_constant x.value || x.is_null

-- a value of a type that no constant expression gives
abbrev pub value_of : CType → Typed
value_of t = record { type = t; is_lvalue = false; value = varies; is_null = false; address = no_address; text = None }

abbrev pub lvalue_of : CType → Address → Typed
lvalue_of t a = record (value_of t) { is_lvalue = true; address = a }

abbrev pub constant_of : CType → Constant → Typed
constant_of t c = record (value_of t) { value = c }

abbrev pub pointer_of : CType → Address → Typed
pointer_of t a = record (value_of t) { address = a }

-- ---- addresses

-- what the value of an expression points to: an lvalue that is no array has a value that is no constant
abbrev pub pointed : Typed → Address
pointed x = pointed_by (x.is_lvalue && not_array (is_array (plain x.type))) x.address
  where
    not_array : Bool → Bool
    not_array true = false
    not_array false = true

    pointed_by : Bool → Address → Address
    pointed_by true a = no_address
    pointed_by false a = a

-- so many bytes further, where that is in the object or at its end (6.5.6, paragraph 8)
abbrev pub within : ℕ → ℤ → Bool
within size at = int_le (pos 0) at && int_le at (pos size)

abbrev pub placed : Bool → ℕ → ℕ → ℤ → Address
placed true number size at = in_object number size at
placed false number size at = no_address

abbrev pub moved : ℤ → Address → Address
moved by (in_object number size at) = placed (within size (at +ℤ by)) number size (at +ℤ by)
moved by no_address = no_address
moved by null_address = no_address
moved by (function_address b) = no_address
moved by (text_address node) = no_address

-- ---- the value of a constant, as it stands before it is converted

abbrev pub pointer_value : Address → Option ConstantValue
pointer_value no_address = None
pointer_value null_address = Some val.Null
pointer_value (function_address b) = Some (val.Function b)
pointer_value (text_address node) = Some (val.Text node)
pointer_value (in_object n size at) = Some (val.Object n at)

abbrev pub constant_value : Typed → Option ConstantValue
constant_value x = of_value x.value
  where
    of_pointer : Option ConstantValue
    of_pointer = if x.is_null then Some val.Null else pointer_value (pointed x)

    of_value : Constant → Option ConstantValue
    of_value (is z) = Some (val.Number z)
    of_value varies = of_pointer
    of_value undefined = of_pointer
