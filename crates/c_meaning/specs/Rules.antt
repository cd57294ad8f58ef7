-- The operators: integers by the definitions of arithmetic, pointers by their blocks and offsets
-- (ISO/IEC 9899:2018, 6.3 and 6.5).
use Rattle.std.specs.Prelude.{ℕ, Bool, false, not, ◌&&◌, ◌==◌, if◌then◌else◌, ℤ, pos, ◌+ℤ◌, ◌-ℤ◌, ◌*ℤ◌, int_le, int_div, int_rem, unsigned_abs, Option, Some, None, Result, Ok, Err, slice_get}
use Rattle.num_ops.specs.declared.kinds.IntKind.{IntKind}
use Rattle.num_ops.specs.declared.kinds.IntKind.TheVariants as k
use Rattle.num_ops.specs.declared.arithmetic.Op.{Op}
use Rattle.num_ops.specs.declared.shifts.Cmp.{Cmp}
use Rattle.num_ops.specs.declared.shifts.Cmp.TheVariants as cmp
use Rattle.num_ops.specs.declared.arithmetic.Undefined.{Undefined}
use Rattle.num_ops.specs.declared.arithmetic.Undefined.TheVariants as undefined
use Rattle.num_ops.specs.Numbers.{Number}
use Rattle.num_ops.specs.Conversions.{converted, is_zero}
use Rattle.num_ops.specs.Arithmetic.{arithmetic, shifted, compared}
use Rattle.c_core.specs.declared.values.Pointer.{Pointer}
use Rattle.c_core.specs.declared.values.Pointer.TheVariants.{Null, Object}
use Rattle.c_core.specs.declared.values.Value.{Value}
use Rattle.c_core.specs.declared.values.Value.TheVariants as value
use Rattle.c_core.specs.declared.values.Scalar.{Scalar}
use Rattle.c_core.specs.declared.values.Scalar.TheVariants as scalar
use Rattle.tok_base.specs.declared.reason.Reason.{Reason}
use Rattle.tok_base.specs.declared.reason.Reason.TheVariants as reason
use Rattle.c_core.specs.declared.tree.ModifyOp.{ModifyOp}
use Rattle.c_core.specs.declared.tree.ModifyOp.TheVariants as modify
use Rattle.c_core.specs.Values.{same_pointer}
use Rattle.c_core.specs.Blocks.{Block, Blocks, is_live}

abbrev pub int : IntKind → ℤ → Value
int kind z = value.Int (record { kind = kind; value = z })

-- 6.5.8, paragraph 6; 6.5.9, paragraph 3: 0 or 1 of type `int`
abbrev pub truth_value : Bool → Value
truth_value b = int k.Int (if b then pos 1 else pos 0)

-- what stands where there is no value, as after a call of a `void` function; nothing uses it
abbrev pub no_value : Value
no_value = value.Ptr Null

-- an integer operand; a well-formed program has no pointer there
abbrev pub number_in : Value → Number
number_in (value.Int n) = n
number_in (value.Ptr p) = record { kind = k.Int; value = pos 0 }

-- a pointer operand; a well-formed program has no integer there
abbrev pub pointer_in : Value → Pointer
pointer_in (value.Ptr p) = p
pointer_in (value.Int n) = Null

abbrev pub natural_in : Value → ℕ
natural_in v = unsigned_abs (number_in v).value

-- 7.22.4.4, 5.1.2.2.3: the argument of `exit` and the result of `main` have the type `int`
abbrev pub exit_code : Value → ℤ
exit_code v = converted k.Int (number_in v).value

-- whether a condition holds: its value compares unequal to 0
abbrev pub holds : Value → Bool
holds v = not (is_zero (number_in v).value)

abbrev pub if_ok : {A B E : Type 0} → Result A E → (A → Result B E) → Result B E
if_ok (Ok a) f = f a
if_ok (Err e) f = Err e

abbrev pub undefined_reason : Undefined → Reason
undefined_reason undefined.Overflow = reason.Overflow
undefined_reason undefined.DivZero = reason.DivZero
undefined_reason undefined.Shift = reason.Shift

abbrev pub number_value : IntKind → Result ℤ Undefined → Result Value Reason
number_value kind (Ok z) = Ok (int kind z)
number_value kind (Err cause) = Err (undefined_reason cause)

-- 6.3.1
abbrev pub convert : IntKind → Value → Value
convert kind v = int kind (converted kind (number_in v).value)

-- the number of a right operand, whose kind is that of the left one: in a well-formed program nothing changes
abbrev pub same_kind : Value → Value → ℤ
same_kind a b = converted (number_in a).kind (number_in b).value

-- 6.5.5, 6.5.6, 6.5.10 to 6.5.12
abbrev pub arith : Op → Value → Value → Result Value Reason
arith op a b = number_value (number_in a).kind (arithmetic op (number_in a).kind (number_in a).value (same_kind a b))

-- 6.5.7
abbrev pub shift : (left : Bool) → Value → Value → Result Value Reason
shift left a b = number_value (number_in a).kind (shifted left (number_in a).kind (number_in a).value (number_in b).value)

-- 6.5.8, 6.5.9
abbrev pub compare_int : Cmp → Value → Value → Value
compare_int op a b = truth_value (compared op (number_in a).value (same_kind a b))

-- ---- pointers

-- 6.2.4, paragraph 2: a pointer into a block whose lifetime has ended has no value any more
abbrev pub is_dangling : Blocks → Pointer → Bool
is_dangling bs (Object n offset) = not (is_live bs n)
is_dangling bs p = false

abbrev pub if_valid : {A : Type 0} → Blocks → Pointer → Result A Reason → Result A Reason
if_valid bs p r = if is_dangling bs p then Err reason.Dead else r

abbrev pub is_null : Pointer → Bool
is_null p = same_pointer p Null

-- 6.5.3.3, paragraph 5; 6.3.1.2: whether an integer is not 0, or a pointer not null
abbrev pub is_true : Blocks → Value → Result Bool Reason
is_true bs (value.Int n) = Ok (not (is_zero n.value))
is_true bs (value.Ptr p) = if_valid bs p (Ok (not (is_null p)))

abbrev pub flipped : Bool → Bool → Bool
flipped negated b = if negated then not b else b

abbrev pub truth : Blocks → Value → (negated : Bool) → Result Value Reason
truth bs v negated = if_ok (is_true bs v) (λ b. Ok (truth_value (flipped negated b)))

abbrev pub size_in : Option Block → ℕ
size_in None = 0
size_in (Some b) = b.size

-- an offset from 0 up to the block's size, the end included
abbrev pub at_offset : Blocks → (block : ℕ) → ℤ → Result Value Reason
at_offset bs n offset =
    if int_le (pos 0) offset && int_le offset (pos (size_in (slice_get bs n)))
    then Ok (value.Ptr (Object n (unsigned_abs offset))) else Err reason.PointerRange

abbrev pub stepped : (offset : ℕ) → ℤ → (size : ℕ) → (minus : Bool) → ℤ
stepped offset index size minus = if minus then pos offset -ℤ index *ℤ pos size else pos offset +ℤ index *ℤ pos size

abbrev pub ptr_add_to : Blocks → Pointer → ℤ → (size : ℕ) → (minus : Bool) → Result Value Reason
ptr_add_to bs (Object n offset) index size minus = at_offset bs n (stepped offset index size minus)
ptr_add_to bs p index size minus = Err reason.PointerRange

-- 6.5.6, paragraph 8: a pointer and a number of elements; the result is in the same object, or one past its end
abbrev pub ptr_add : Blocks → (pointer index : Value) → (size : ℕ) → (minus : Bool) → Result Value Reason
ptr_add bs p i size minus = if_valid bs (pointer_in p) (ptr_add_to bs (pointer_in p) (number_in i).value size minus)

-- 6.5.6, paragraph 9: the difference in elements, of type `long`
abbrev pub elements : ℤ → (size : ℕ) → Result Value Reason
elements bytes size = if is_zero (int_rem bytes (pos size)) then Ok (int k.Long (int_div bytes (pos size))) else Err reason.PointerDiff

abbrev pub ptr_diff_of : Pointer → Pointer → (size : ℕ) → Result Value Reason
ptr_diff_of (Object n i) (Object m j) size = if n == m then elements (pos i -ℤ pos j) size else Err reason.PointerDiff
ptr_diff_of p q size = Err reason.PointerDiff

abbrev pub ptr_diff : Blocks → Value → Value → (size : ℕ) → Result Value Reason
ptr_diff bs p q size = if_valid bs (pointer_in p) (if_valid bs (pointer_in q) (ptr_diff_of (pointer_in p) (pointer_in q) size))

-- 6.5.8, paragraph 5: only pointers into one object have an order
abbrev pub ordered : Cmp → Pointer → Pointer → Result Value Reason
ordered op (Object n i) (Object m j) = if n == m then Ok (truth_value (compared op (pos i) (pos j))) else Err reason.PointerOrder
ordered op p q = Err reason.PointerOrder

abbrev pub ptr_compared : Cmp → Pointer → Pointer → Result Value Reason
ptr_compared cmp.Eq p q = Ok (truth_value (same_pointer p q))
ptr_compared cmp.Ne p q = Ok (truth_value (not (same_pointer p q)))
ptr_compared op p q = ordered op p q

-- 6.5.8, 6.5.9: pointers into different blocks are unequal, wherever the blocks lie
abbrev pub compare_ptr : Cmp → Blocks → Value → Value → Result Value Reason
compare_ptr op bs p q = if_valid bs (pointer_in p) (if_valid bs (pointer_in q) (ptr_compared op (pointer_in p) (pointer_in q)))

-- 6.5.2.4, 6.5.3.1, 6.5.16.2: the operator of a compound assignment, on the old value and the operand
abbrev pub modified : ModifyOp → (common : IntKind) → Blocks → (old operand : Value) → Result Value Reason
modified (modify.Arith op) common bs old x = arith op (convert common old) x
modified (modify.ShiftBits left) common bs old x = shift left (convert common old) x
modified (modify.PtrAdd size minus) common bs old x = ptr_add bs old x size minus

-- 6.5.16.1, paragraph 2; 6.5.16.2, paragraph 3: what is stored has the type of the object
abbrev pub as_kind : Scalar → Value → Value
as_kind (scalar.Int kind) v = convert kind v
as_kind scalar.Ptr v = value.Ptr (pointer_in v)
