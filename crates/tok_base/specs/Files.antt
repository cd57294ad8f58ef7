-- What a read of a whole file has done.
use Rattle.std.specs.Prelude.{◌≡◌, ℕ, ◌<◌, List, Option, Some, Result, Ok, Err, length}
use Rattle.tok_base.specs.Fault.{Rose}
use Rattle.tok_base.specs.declared.files.ReadEnd.{ReadEnd}
use Rattle.tok_base.specs.declared.files.ReadEnd.TheVariants.{Fault, TooLong, NoMemory}

-- the bytes of each name that there is
abbrev pub Contents : Type 0
Contents = List ℕ → Option (List ℕ)

-- a read of the name gives its bytes, or tells that they are more than the limit
abbrev pub Finds : Contents → List ℕ → ℕ → Result (List ℕ) ReadEnd → Type 0
Finds contents name limit (Ok bytes) = contents name ≡ Some bytes
Finds contents name limit (Err TooLong) = (bytes : List ℕ) × (contents name ≡ Some bytes) × (limit < length bytes)
Finds contents name limit (Err Fault) = Unit {0}
Finds contents name limit (Err NoMemory) = Unit {0}

-- the count of faults and the name that failed last, before and after a read of the name
pub record Tally : Type 0 where
  pub faults : ℕ
  pub failed : Option (List ℕ)

-- a fault raises the count and leaves its name, every other answer leaves both as they were
abbrev pub Marks : Tally → Tally → List ℕ → Result (List ℕ) ReadEnd → Type 0
Marks before now name (Err Fault) = Rose before.faults now.faults × (now.failed ≡ Some name)
Marks before now name (Err TooLong) = now ≡ before
Marks before now name (Err NoMemory) = now ≡ before
Marks before now name (Ok _) = now ≡ before
