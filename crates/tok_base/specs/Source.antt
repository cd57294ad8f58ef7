-- What a read of all that is left has done.
use Rattle.std.specs.Prelude.{◌≡◌, ℕ, ◌<◌, ◌≤◌, List, [], Option, Some, Result, Ok, Err, IfSome, length}
use Rattle.std.specs.Io.KnownBytes.{Consumes}
use Rattle.tok_base.specs.Fault.{Rose}
use Rattle.tok_base.specs.declared.files.ReadEnd.{ReadEnd}
use Rattle.tok_base.specs.declared.files.ReadEnd.TheVariants.{Fault, TooLong, NoMemory}

-- a front of the rest was taken
abbrev pub TakesFront : Option (List ℕ) → Option (List ℕ) → Type 0
TakesFront old new = (front : List ℕ) × Consumes old new front

-- the whole rest is the answer and none is left, or after an error a front was taken; too long is a rest that
-- is longer than the limit
abbrev pub ReadsWhole : Option (List ℕ) → Option (List ℕ) → ℕ → Result (List ℕ) ReadEnd → Type 0
ReadsWhole old new limit (Ok bytes) = IfSome old (λ all. (bytes ≡ all) × (new ≡ Some []))
ReadsWhole old new limit (Err TooLong) = IfSome old (λ all. limit < length all) × TakesFront old new
ReadsWhole old new limit (Err Fault) = TakesFront old new
ReadsWhole old new limit (Err NoMemory) = TakesFront old new

-- a fault raises the count, and every other answer leaves it as it was
abbrev pub Raises : {T : Type 0} → ℕ → ℕ → Result T ReadEnd → Type 0
Raises before now (Err Fault) = Rose before now
Raises before now (Err TooLong) = now ≡ before
Raises before now (Err NoMemory) = now ≡ before
Raises before now (Ok _) = now ≡ before

-- inside such a read: these bytes were taken, within the limit, and no read has failed
pub record HasRead (before now : ℕ) (old new : Option (List ℕ)) (bytes : List ℕ) (limit : ℕ) : Type 0 where
  pub within : length bytes ≤ limit
  pub taken : Consumes old new bytes
  pub kept : now ≡ before
