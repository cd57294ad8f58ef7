-- How values stand in cells (ISO/IEC 9899:2018, 6.2.6): two's complement, the low byte first, a pointer as
-- eight parts of its own, null as eight zero bytes.
use Rattle.std.specs.Prelude.{ℕ, zero, suc, ◌+◌, ◌*◌, ◌/◌, ◌%◌, Bool, true, false, ◌&&◌, ◌==◌, if◌then◌else◌, List, [], ◌∷◌, map, replicate, ℤ, pos, Result, Ok, Err}
use Rattle.num_ops.specs.declared.kinds.IntKind.{IntKind}
use Rattle.num_ops.specs.declared.kinds.IntKind.TheVariants as k
use Rattle.num_ops.specs.Kinds.{width}
use Rattle.num_ops.specs.Conversions.{bits_of, from_bits}
use Rattle.c_core.specs.declared.values.Pointer.{Pointer}
use Rattle.c_core.specs.declared.values.Pointer.TheVariants.{Null as NullPointer, Object, Function}
use Rattle.c_core.specs.declared.values.Value.{Value}
use Rattle.c_core.specs.declared.values.Value.TheVariants as value
use Rattle.c_core.specs.declared.values.Cell.{Cell}
use Rattle.c_core.specs.declared.values.Cell.TheVariants.{Undefined, Byte, Part}
use Rattle.c_core.specs.declared.values.Scalar.{Scalar}
use Rattle.c_core.specs.declared.values.Scalar.TheVariants as scalar
use Rattle.c_core.specs.declared.values.Fault.{Fault}
use Rattle.c_core.specs.declared.values.Fault.TheVariants.{Indeterminate, PointerBytes, TornPointer}

-- 6.5.3.4: how many bytes a scalar takes
abbrev pub scalar_size : Scalar → ℕ
scalar_size (scalar.Int kind) = (width kind + 7) / 8
scalar_size scalar.Ptr = 8

abbrev pub kind_of : Value → Scalar
kind_of (value.Int n) = scalar.Int n.kind
kind_of (value.Ptr p) = scalar.Ptr

-- the low `count` bytes of a number, the lowest first
abbrev pub little_endian : ℕ → ℕ → List ℕ
little_endian zero n = []
little_endian (suc count) n = n % 256 ∷ little_endian count (n / 256)

-- the number that has these bytes
abbrev pub number_of : List ℕ → ℕ
number_of [] = 0
number_of (b ∷ bs) = b + 256 * number_of bs

-- the parts of a pointer
abbrev pub parts : Pointer → List Cell
parts p = map (Part p) (0 ∷ 1 ∷ 2 ∷ 3 ∷ 4 ∷ 5 ∷ 6 ∷ 7 ∷ [])

abbrev pub pointer_cells : Pointer → List Cell
pointer_cells NullPointer = replicate 8 (Byte 0)
pointer_cells p = parts p

-- 6.2.6.1, paragraph 4: the cells that a stored value takes
abbrev pub cells_of : Value → List Cell
cells_of (value.Int n) = map Byte (little_endian (scalar_size (scalar.Int n.kind)) (bits_of n.kind n.value))
cells_of (value.Ptr p) = pointer_cells p

abbrev pub has_undefined : List Cell → Bool
has_undefined [] = false
has_undefined (Undefined ∷ cells) = true
has_undefined (c ∷ cells) = has_undefined cells

abbrev pub has_part : List Cell → Bool
has_part [] = false
has_part (Part p i ∷ cells) = true
has_part (c ∷ cells) = has_part cells

abbrev pub byte_of : Cell → ℕ
byte_of (Byte b) = b
byte_of c = 0

abbrev pub same_pointer : Pointer → Pointer → Bool
same_pointer NullPointer NullPointer = true
same_pointer (Object n i) (Object m j) = (n == m) && (i == j)
same_pointer (Function f) (Function g) = f == g
same_pointer p q = false

abbrev pub same_cell : Cell → Cell → Bool
same_cell Undefined Undefined = true
same_cell (Byte a) (Byte b) = a == b
same_cell (Part p i) (Part q j) = same_pointer p q && (i == j)
same_cell c d = false

abbrev pub same_cells : List Cell → List Cell → Bool
same_cells [] [] = true
same_cells (c ∷ cs) (d ∷ ds) = same_cell c d && same_cells cs ds
same_cells cs ds = false

-- the value of an integer type that has these bits; a `_Bool` that isn't 0 is read as 1
abbrev pub int_from : IntKind → ℕ → ℤ
int_from k.Bool n = if n == 0 then pos 0 else pos 1
int_from kind n = from_bits kind n

-- a stored pointer: eight zero bytes, or the parts 0 to 7 of one pointer
abbrev pub pointer_in : List Cell → Result Value Fault
pointer_in (Part p i ∷ cells) = if same_cells (Part p i ∷ cells) (parts p) then Ok (value.Ptr p) else Err TornPointer
pointer_in cells = if same_cells cells (replicate 8 (Byte 0)) then Ok (value.Ptr NullPointer) else Err TornPointer

abbrev pub scalar_in : Scalar → List Cell → Result Value Fault
scalar_in (scalar.Int kind) cells =
    if has_part cells then Err PointerBytes
    else Ok (value.Int (record { kind = kind; value = int_from kind (number_of (map byte_of cells)) }))
scalar_in scalar.Ptr cells = pointer_in cells

-- the value that cells hold, or the first fault
abbrev pub value_in : Scalar → List Cell → Result Value Fault
value_in kind cells = if has_undefined cells then Err Indeterminate else scalar_in kind cells
