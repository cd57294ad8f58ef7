-- Worked rows of access, all by computation.
use Rattle.std.specs.Prelude.{◌≡◌, ℕ, true, false, [], ◌∷◌, replicate, ℤ, pos, negsuc, Result, Ok, Err}
use Rattle.num_ops.specs.declared.kinds.IntKind.{IntKind}
use Rattle.num_ops.specs.declared.kinds.IntKind.TheVariants as k
use Rattle.c_core.specs.declared.values.Pointer.{Pointer}
use Rattle.c_core.specs.declared.values.Pointer.TheVariants.{Null as NullPointer, Object, Function}
use Rattle.c_core.specs.declared.values.Value.{Value}
use Rattle.c_core.specs.declared.values.Value.TheVariants as value
use Rattle.c_core.specs.declared.values.Cell.TheVariants.{Undefined, Byte, Part}
use Rattle.c_core.specs.declared.values.Scalar.TheVariants as scalar
use Rattle.c_core.specs.declared.values.BlockKind.TheVariants as kind
use Rattle.c_core.specs.declared.values.Fault.{Fault}
use Rattle.c_core.specs.declared.values.Fault.TheVariants.{Null, Dead, Bounds, Misaligned, ReadOnly, Indeterminate, PointerBytes, TornPointer, Overlap}
use Rattle.tok_base.specs.declared.reason.Reason.TheVariants as reason
use Rattle.c_core.specs.Values.{scalar_size, kind_of, cells_of, value_in}
use Rattle.c_core.specs.Blocks.{Blocks, placed, killed, load, store, copy, fill, reason_of}

abbrev int : IntKind → ℤ → Value
int kind z = value.Int (record { kind = kind; value = z })

-- the blocks after a change, or as they were where it has a fault
abbrev after : Blocks → Result Blocks Fault → Blocks
after bs (Ok new) = new
after bs (Err fault) = bs

-- a heap block of 16 bytes, and a string literal of 4
abbrev two : Blocks
two = placed (placed [] kind.Heap 16) kind.ReadOnly 4

abbrev at : ℕ → Pointer
at offset = Object 0 offset

-- a Long 5 stands in the first eight bytes
abbrev with_five : Blocks
with_five = after two (store two (at 0) (scalar.Int k.Long) (int k.Long (pos 5)))

-- a pointer stands in the last eight
abbrev with_pointer : Blocks
with_pointer = after with_five (store with_five (at 8) scalar.Ptr (value.Ptr (at 4)))

abbrev with_byte : Blocks
with_byte = after with_pointer (store with_pointer (at 9) (scalar.Int k.Char) (int k.Char (pos 0)))

abbrev pub ValueRows : Type 0
ValueRows =
    (scalar_size (scalar.Int k.Bool) ≡ 1)
    × (scalar_size (scalar.Int k.UShort) ≡ 2)
    × (scalar_size (scalar.Int k.Int) ≡ 4)
    × (scalar_size scalar.Ptr ≡ 8)
    × (kind_of (value.Ptr (Function 2)) ≡ scalar.Ptr)
    × (reason_of TornPointer ≡ reason.TornPointer)
    × (scalar_size (scalar.Int k.ULongLong) ≡ 8)
    × (cells_of (int k.Int (negsuc 1)) ≡ Byte 254 ∷ Byte 255 ∷ Byte 255 ∷ Byte 255 ∷ [])
    × (cells_of (int k.Short (pos 513)) ≡ Byte 1 ∷ Byte 2 ∷ [])
    × (cells_of (value.Ptr NullPointer) ≡ replicate 8 (Byte 0))
    × (value_in (scalar.Int k.Short) (Byte 255 ∷ Byte 255 ∷ []) ≡ Ok (int k.Short (negsuc 0)))
    × (value_in (scalar.Int k.UShort) (Byte 255 ∷ Byte 255 ∷ []) ≡ Ok (int k.UShort (pos 65535)))
    × (value_in (scalar.Int k.Bool) (Byte 4 ∷ []) ≡ Ok (int k.Bool (pos 1)))
    × (value_in (scalar.Int k.Short) (Part (Function 3) 0 ∷ Undefined ∷ []) ≡ Err Indeterminate)

abbrev pub LoadRows : Type 0
LoadRows =
    (load with_five (at 0) (scalar.Int k.Long) ≡ Ok (int k.Long (pos 5)))
    × (load with_five (at 4) (scalar.Int k.Int) ≡ Ok (int k.Int (pos 0)))
    × (load with_five (at 0) scalar.Ptr ≡ Err TornPointer)
    × (load with_five (at 8) (scalar.Int k.Int) ≡ Err Indeterminate)
    × (load with_five (at 2) (scalar.Int k.Int) ≡ Err Misaligned)
    × (load with_five (at 16) (scalar.Int k.Long) ≡ Err Bounds)
    × (load with_five (Object 2 0) (scalar.Int k.Char) ≡ Err Dead)
    × (load with_five (Function 0) (scalar.Int k.Char) ≡ Err Null)
    × (load with_pointer (at 8) scalar.Ptr ≡ Ok (value.Ptr (at 4)))
    × (load with_pointer (at 12) (scalar.Int k.Int) ≡ Err PointerBytes)
    × (load with_byte (at 8) scalar.Ptr ≡ Err TornPointer)
    × (store two (Object 1 0) (scalar.Int k.Char) (int k.Char (pos 1)) ≡ Err ReadOnly)
    × (store two (Object 1 1) (scalar.Int k.Short) (int k.Short (pos 1)) ≡ Err Misaligned)

-- a pointer copied in two halves is the same pointer; copied to another place it is torn
abbrev halves : Blocks
halves = after with_pointer (copy with_pointer (at 0) (at 8) 4 false)

abbrev whole : Blocks
whole = after halves (copy halves (at 4) (at 12) 4 false)

abbrev pub CopyRows : Type 0
CopyRows =
    (load halves (at 0) scalar.Ptr ≡ Err TornPointer)
    × (load whole (at 0) scalar.Ptr ≡ Ok (value.Ptr (at 4)))
    × (copy two (at 0) (at 4) 8 false ≡ Err Overlap)
    × (copy two (at 0) (at 4) 8 true ≡ Ok two)
    × (copy two (at 0) (at 8) 8 false ≡ Ok two)
    × (copy two (Object 1 0) (at 0) 1 false ≡ Err ReadOnly)
    × (copy two (at 16) (Object 1 0) 0 false ≡ Ok two)
    × (copy two (at 15) NullPointer 2 false ≡ Err Bounds)
    × (load (after two (fill two (at 0) 255 4)) (at 0) (scalar.Int k.Int) ≡ Ok (int k.Int (negsuc 0)))
    × (fill two (Object 1 4) 0 0 ≡ Err ReadOnly)
    × (fill two NullPointer 0 0 ≡ Err Null)

abbrev pub KillRows : Type 0
KillRows =
    (load (killed with_five 0) (at 0) (scalar.Int k.Long) ≡ Err Dead)
    × (load (killed with_five 0) (Object 1 0) (scalar.Int k.Char) ≡ Err Indeterminate)
    × (load (placed (killed with_five 0) kind.Heap 16) (Object 2 0) (scalar.Int k.Char) ≡ Err Indeterminate)
    × (load (placed (killed with_five 0) kind.Heap 16) (at 0) (scalar.Int k.Char) ≡ Err Dead)
