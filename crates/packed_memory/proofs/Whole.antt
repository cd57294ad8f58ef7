-- Values whose cells are all of one sort.
use Rattle.std.proofs.Common.{◌≡◌, ℕ, zero, suc, ◌/◌, ◌%◌, ◌≤◌, Bool, true, false, ◌&&◌, List, [], ◌∷◌, length, take, map, replicate, Ok, Err, refl, sym, ap, ◌∙◌, arith, rules, eqb}
use Rattle.std.specs.Prelude.{if◌then◌else◌}
use Rattle.num_ops.specs.declared.kinds.IntKind.{IntKind}
use Rattle.num_ops.specs.declared.kinds.IntKind.TheVariants as k
use Rattle.c_core.specs.declared.values.Cell.TheVariants.{Byte, Part}
use Rattle.c_core.specs.declared.values.Pointer.{Pointer}
use Rattle.c_core.specs.declared.values.Pointer.TheVariants.{Null, Object, Function}
use Rattle.c_core.specs.declared.values.Value.{Value}
use Rattle.c_core.specs.declared.values.Value.TheVariants as value
use Rattle.c_core.specs.declared.values.Scalar.{Scalar}
use Rattle.c_core.specs.declared.values.Scalar.TheVariants as scalar
use Rattle.c_core.specs.declared.values.Fault.TheVariants.{Indeterminate, PointerBytes}
use Rattle.c_core.specs.Values.{scalar_size, value_in, scalar_in, has_undefined, has_part, byte_of, number_of, int_from, parts, same_pointer, little_endian}
use Rattle.packed_memory.specs.Packed.{cell_in, cells_in}
use Rattle.packed_memory.proofs.Packing.{same-cells, parts_are}

pub take-little : (size count n : ℕ) → size ≤ count → take size (little_endian count n) ≡ little_endian size n
take-little zero count n h = refl
take-little (suc size) zero n h = absurd (omega arith)
take-little (suc size) (suc count) n h = ap (λ l. n % 256 ∷ l) (take-little size count (n / 256) (omega arith))

byte_cells : (bytes : List ℕ) → map (λ b. cell_in b 1) bytes ≡ map Byte bytes
byte_cells [] = refl
byte_cells (b ∷ bytes) = ap (λ l. Byte b ∷ l) (byte_cells bytes)

bytes_defined : (bytes : List ℕ) → has_undefined (map Byte bytes) ≡ false
bytes_defined [] = refl
bytes_defined (b ∷ bytes) = bytes_defined bytes

bytes_whole : (bytes : List ℕ) → has_part (map Byte bytes) ≡ false
bytes_whole [] = refl
bytes_whole (b ∷ bytes) = bytes_whole bytes

bytes_back : (bytes : List ℕ) → map byte_of (map Byte bytes) ≡ bytes
bytes_back [] = refl
bytes_back (b ∷ bytes) = ap (λ l. b ∷ l) (bytes_back bytes)

abbrev int_value : IntKind → List ℕ → Value
int_value kind bytes = value.Int (record { kind = kind; value = int_from kind (number_of bytes) })

-- a number, where each cell is a byte
pub number_is : (kind : IntKind) (bytes words : List ℕ) → length words ≡ length bytes → words ≡ replicate (length words) 1 → value_in (scalar.Int kind) (cells_in bytes words) ≡ Ok (int_value kind bytes)
number_is kind bytes words e f =
    let g : cells_in bytes words ≡ map Byte bytes = ap (λ w. cells_in bytes w) f ∙ same-cells 1 (length words) bytes (sym e) ∙ byte_cells bytes in
    ap (λ cells. value_in (scalar.Int kind) cells) g
    ∙ ap (λ b. if b then Err Indeterminate else scalar_in (scalar.Int kind) (map Byte bytes)) (bytes_defined bytes)
    ∙ ap (λ b. if b then Err PointerBytes else Ok (int_value kind (map byte_of (map Byte bytes)))) (bytes_whole bytes)
    ∙ ap (λ l. Ok (int_value kind l)) (bytes_back bytes)

eqb_true : (n : ℕ) → eqb n n ≡ true
eqb_true n = search rules

and_true : (a b : Bool) → a ≡ true → b ≡ true → (a && b) ≡ true
and_true true b e f = f
and_true false b e f = e

same_self : (p : Pointer) → same_pointer p p ≡ true
same_self Null = refl
same_self (Object n o) = and_true (eqb n n) (eqb o o) (eqb_true n) (eqb_true o)
same_self (Function f) = eqb_true f

-- a pointer, where the cells are its parts
pub pointer_is : (p : Pointer) (w : ℕ) (bytes words : List ℕ) → length words ≡ length bytes → words ≡ replicate (length words) w → bytes ≡ 0 ∷ 1 ∷ 2 ∷ 3 ∷ 4 ∷ 5 ∷ 6 ∷ 7 ∷ [] → ((b : ℕ) → cell_in b w ≡ Part p b) → value_in scalar.Ptr (cells_in bytes words) ≡ Ok (value.Ptr p)
pointer_is p w bytes words e f g h =
    let k : cells_in bytes words ≡ parts p =
    ap (λ l. cells_in bytes l) f ∙ same-cells w (length words) bytes (sym e) ∙ parts_are w p bytes h ∙ ap (λ l. map (Part p) l) g in
    ap (λ cells. value_in scalar.Ptr cells) k ∙ rw (same_self p) refl

kind_small : (kind : IntKind) → scalar_size (scalar.Int kind) ≤ 8
kind_small k.Bool = omega arith
kind_small k.Char = omega arith
kind_small k.SChar = omega arith
kind_small k.UChar = omega arith
kind_small k.Short = omega arith
kind_small k.UShort = omega arith
kind_small k.Int = omega arith
kind_small k.UInt = omega arith
kind_small k.Long = omega arith
kind_small k.ULong = omega arith
kind_small k.LongLong = omega arith
kind_small k.ULongLong = omega arith

pub scalar_small : (kind : Scalar) → scalar_size kind ≤ 8
scalar_small (scalar.Int kind) = kind_small kind
scalar_small scalar.Ptr = omega arith
