-- What a write of a whole text has done.
use Rattle.std.specs.Prelude.{◌≡◌, ℕ, ◌≤◌, List, length, take, Option, Result, Ok, Err}
use Rattle.std.specs.Io.KnownBytes.{Appends}

-- a front of the bytes was written
abbrev pub AppendsFront : Option (List ℕ) → Option (List ℕ) → List ℕ → Type 0
AppendsFront old new bytes = (n : ℕ) × (n ≤ length bytes) × Appends old new (take n bytes)

-- all the bytes were written, or after a failure a front of them
abbrev pub WritesWhole : {T E : Type 0} → Option (List ℕ) → Option (List ℕ) → Result T E → List ℕ → Type 0
WritesWhole old new (Ok _) bytes = Appends old new bytes
WritesWhole old new (Err _) bytes = AppendsFront old new bytes

-- inside such a write: the first n bytes were written, and no write has failed
pub record HasWritten (before now : ℕ) (old new : Option (List ℕ)) (bytes : List ℕ) (n : ℕ) : Type 0 where
  pub within : n ≤ length bytes
  pub written : Appends old new (take n bytes)
  pub kept : now ≡ before
