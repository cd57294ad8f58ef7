-- A cell as one byte and one word of 64 bits: two bits for its sort, 32 for the number of a block or a function, 30 for
-- an offset. A byte cell has its value as its byte, part i of a pointer has i.
use Rattle.std.specs.Prelude.{ℕ, zero, suc, ◌<◌, ◌+◌, ◌/◌, ◌%◌, ◌^◌, List, [], ◌∷◌, ◌++◌, take, drop, length}
use Rattle.c_core.specs.declared.values.Pointer.{Pointer}
use Rattle.c_core.specs.declared.values.Pointer.TheVariants.{Null, Object, Function}
use Rattle.c_core.specs.declared.values.Value.{Value}
use Rattle.c_core.specs.declared.values.Value.TheVariants as value
use Rattle.c_core.specs.declared.values.Cell.{Cell}
use Rattle.c_core.specs.declared.values.Cell.TheVariants.{Undefined, Byte, Part}

abbrev pub of_sort : (sort byte number offset : ℕ) → Cell
of_sort zero byte number offset = Undefined
of_sort (suc zero) byte number offset = Byte byte
of_sort (suc (suc zero)) byte number offset = Part (Object number offset) byte
of_sort (suc (suc (suc sort))) byte number offset = Part (Function number) byte

-- the cell that a byte and a word stand for
abbrev pub cell_in : (byte word : ℕ) → Cell
cell_in byte word = of_sort (word % 4) byte (word / 4 % 2 ^ 32) (word / 2 ^ 34)

abbrev pub cells_in : (bytes words : List ℕ) → List Cell
cells_in [] words = []
cells_in (b ∷ bytes) [] = []
cells_in (b ∷ bytes) (w ∷ words) = cell_in b w ∷ cells_in bytes words

-- a pointer that has parts, and an offset that 30 bits hold
abbrev pub HasWord : Pointer → Type 0
HasWord Null = ⊥
HasWord (Object number offset) = offset < 2 ^ 30
HasWord (Function number) = Unit {0}

abbrev pub HoldsWord : Value → Type 0
HoldsWord (value.Int n) = Unit {0}
HoldsWord (value.Ptr Null) = Unit {0}
HoldsWord (value.Ptr p) = HasWord p

abbrev pub PartHasWord : Cell → Type 0
PartHasWord (Part p i) = HasWord p
PartHasWord c = Unit {0}

-- a list after a part of it was written
abbrev pub over : {A : Type 0} → List A → (at : ℕ) → List A → List A
over xs at new = take at xs ++ new ++ drop (at + length new) xs
