-- What a run can hold: a pointer into a block that was given, at most at its end, by the sizes of the blocks.
use Rattle.std.specs.Prelude.{ℕ, ◌<◌, ◌≤◌, List, [], ◌∷◌, length, slice_index}
use Rattle.c_core.specs.declared.values.Pointer.{Pointer}
use Rattle.c_core.specs.declared.values.Pointer.TheVariants.{Null, Object, Function}
use Rattle.c_core.specs.declared.values.Value.{Value}
use Rattle.c_core.specs.declared.values.Value.TheVariants.{Int, Ptr}
use Rattle.c_core.specs.declared.values.Cell.{Cell}
use Rattle.c_core.specs.declared.values.Cell.TheVariants.{Undefined, Byte, Part}

-- 6.5.6, paragraph 8: a pointer into a block, or one past its last byte
abbrev pub IsGiven : (sizes : List ℕ) → Pointer → Type 0
IsGiven sizes (Object number offset) = (number < length sizes) × (offset ≤ slice_index sizes number)
IsGiven sizes p = Unit {0}

abbrev pub IsGivenValue : (sizes : List ℕ) → Value → Type 0
IsGivenValue sizes (Int n) = Unit {0}
IsGivenValue sizes (Ptr p) = IsGiven sizes p

-- null is stored as zero bytes, and has no parts
abbrev pub HasParts : (sizes : List ℕ) → Pointer → Type 0
HasParts sizes Null = ⊥
HasParts sizes p = IsGiven sizes p

abbrev pub IsGivenCell : (sizes : List ℕ) → Cell → Type 0
IsGivenCell sizes Undefined = Unit {0}
IsGivenCell sizes (Byte b) = Unit {0}
IsGivenCell sizes (Part p i) = HasParts sizes p × (i < 8)

abbrev pub AreGiven : (sizes : List ℕ) → List Cell → Type 0
AreGiven sizes [] = Unit {0}
AreGiven sizes (c ∷ cells) = IsGivenCell sizes c × AreGiven sizes cells
