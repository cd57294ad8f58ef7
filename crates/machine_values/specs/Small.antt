-- That blocks are small: no object has 2^28 bytes, and no range of the heap has more than 2^20.
use Rattle.std.specs.Prelude.{ℕ, ◌<◌, ◌^◌, slice_get}
use Rattle.c_core.specs.declared.values.Pointer.{Pointer}
use Rattle.c_core.specs.declared.values.Pointer.TheVariants.{Object}
use Rattle.c_core.specs.Blocks.{Blocks}
use Rattle.c_meaning.specs.Rules.{size_in}

abbrev pub AreSmall : Blocks → Type 0
AreSmall bs = (n : ℕ) → size_in (slice_get bs n) < 2 ^ 32

-- a pointer whose offset is into a small block
abbrev pub IsBelow : Pointer → Type 0
IsBelow (Object n offset) = offset < 2 ^ 32
IsBelow p = Unit {0}
