-- What is known of constants and addresses, apart from the expressions that have them.
use Rattle.std.specs.Prelude.{ℕ, ℤ, pos, ◌*ℤ◌, ◌≡◌, refl, Bool, true, false, ◌&&◌, not, if◌then◌else◌, Option, Some, None, unwrap_or, Result, Ok, Err}
use Rattle.num_ops.specs.declared.kinds.IntKind.TheVariants as k
use Rattle.num_ops.specs.declared.arithmetic.Undefined.{Undefined}
use Rattle.num_ops.specs.Kinds.{holds}
use Rattle.num_ops.specs.Numbers.{Number}
use Rattle.c_tree.specs.Tree.{BinaryOp, Or, And, BitOr, BitXor, BitAnd, Eq, Ne, Lt, Gt, Le, Ge, Shl, Shr, Add, Sub, Mul, Div, Rem}
use Rattle.c_types.specs.CTypes.{CType, Int}
use Rattle.c_types.specs.Plain.{plain}
use Rattle.c_rules.specs.Types.{is_array, kind_of, pointee}
use Rattle.c_rules.specs.Typed.{Typed, Constant, varies, undefined, is, Address, no_address, moved, pointed, pointer_value, constant_value}
use Rattle.c_rules.specs.World.{World, size_in}
use Rattle.c_rules.specs.Forms.{binary_value, moved_by}
use Rattle.c_rules.specs.declared.known.ConstantValue.{ConstantValue}
use Rattle.c_rules.specs.declared.known.ConstantValue.TheVariants as val

-- the value, where it has one
abbrev pub number_in : Constant → Option ℤ
number_in (is z) = Some z
number_in varies = None
number_in undefined = None

-- a value in int's range
abbrev pub int_in : Constant → Option ℤ
int_in (is z) = if holds k.Int z then Some z else None
int_in varies = None
int_in undefined = None

-- of the number of an integer constant that a kind of its list has, or of one that has none (6.4.4.1, paragraph 6)
abbrev pub of_number : Option Number → Constant
of_number (Some n) = is n.value
of_number None = undefined

-- what num_ops gives, as a constant
abbrev pub of_result : Result Number Undefined → Constant
of_result (Ok n) = is n.value
of_result (Err cause) = undefined

-- ---- addresses

-- so many elements of so many bytes further; another constant moves nothing
abbrev pub moved_elements : Constant → (size : ℕ) → Address → Address
moved_elements (is z) size at = moved (z *ℤ pos size) at
moved_elements varies size at = no_address
moved_elements undefined size at = no_address

-- what the value of an expression points to, by whether it is an lvalue and its type an array's
abbrev pub pointed_from : (is_lvalue is_an_array : Bool) → Address → Address
pointed_from is_lvalue is_an_array at = if is_lvalue && not is_an_array then no_address else at

-- the value of a constant, as it stands before it is converted, by what is known of it
abbrev pub value_from : Constant → (is_null : Bool) → (pointed : Address) → Option ConstantValue
value_from (is z) is_null at = Some (val.Number z)
value_from varies is_null at = if is_null then Some val.Null else pointer_value at
value_from undefined is_null at = if is_null then Some val.Null else pointer_value at

-- ---- these are the rules' own definitions

pub binary_value_is : (o : BinaryOp) (t u : CType) (c d : Constant) → binary_value o t u c d ≡ binary_value o (Int (kind_of t)) (Int (kind_of u)) c d
binary_value_is Or t u c d = refl
binary_value_is And t u c d = refl
binary_value_is BitOr t u c d = refl
binary_value_is BitXor t u c d = refl
binary_value_is BitAnd t u c d = refl
binary_value_is Eq t u c d = refl
binary_value_is Ne t u c d = refl
binary_value_is Lt t u c d = refl
binary_value_is Gt t u c d = refl
binary_value_is Le t u c d = refl
binary_value_is Ge t u c d = refl
binary_value_is Shl t u c d = refl
binary_value_is Shr t u c d = refl
binary_value_is Add t u c d = refl
binary_value_is Sub t u c d = refl
binary_value_is Mul t u c d = refl
binary_value_is Div t u c d = refl
binary_value_is Rem t u c d = refl

pub moved_by_is : (w : World) (t : CType) (c : Constant) (at : Address) → moved_by w t c at ≡ moved_elements c (unwrap_or (size_in w (pointee t)) 0) at
moved_by_is w t (is z) at = refl
moved_by_is w t varies at = refl
moved_by_is w t undefined at = refl

pointed_cases : (is_lvalue is_an_array : Bool) (t : CType) (v : Constant) (n : Bool) (at : Address) (text : Option ℕ) → is_array (plain t) ≡ is_an_array
    → pointed (record { type = t; is_lvalue = is_lvalue; value = v; is_null = n; address = at; text = text }) ≡ pointed_from is_lvalue is_an_array at
pointed_cases true true t v n at text e = rw e refl
pointed_cases true false t v n at text e = rw e refl
pointed_cases false true t v n at text e = refl
pointed_cases false false t v n at text e = refl

pub pointed_is : (x : Typed) → pointed x ≡ pointed_from x.is_lvalue (is_array (plain x.type)) x.address
pointed_is x = pointed_cases x.is_lvalue (is_array (plain x.type)) x.type x.value x.is_null x.address x.text refl

value_cases : (v : Constant) (x : Typed) → x.value ≡ v → constant_value x ≡ value_from v x.is_null (pointed x)
value_cases (is z) x e = rw e refl
value_cases varies x e = rw e refl
value_cases undefined x e = rw e refl

pub constant_value_is : (x : Typed) → constant_value x ≡ value_from x.value x.is_null (pointed x)
constant_value_is x = value_cases x.value x refl
