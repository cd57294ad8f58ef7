-- The words that the program is run on, as the process gives them.
use Rattle.std.specs.Prelude.{◌≡◌, ◌≢◌, ℕ, List, [], drop, map, string_bytes, Result, Ok, Err}
use Rattle.std.specs.Global.{Global}
use Rattle.std.specs.Vec.Iter.{into_iter_items}
use Rattle.std.specs.IoError.{error_kind}
use Rattle.std.specs.declared.string.String.{String}
use Rattle.std.specs.declared.vec.IntoIter.{IntoIter}
use Rattle.std.specs.declared.io.Error.{Error}
use Rattle.std.specs.declared.io.ErrorKind.TheVariants.{OutOfMemory}

-- the arguments of the process, or why they could not be read
abbrev pub Arguments : Type 0
Arguments = Result (IntoIter (String Global) Global) Error

-- they give these words: the bytes of each argument behind the first, which is the program's name. There are none where an
-- argument is no text; and where there was no memory for the arguments, they give no words at all
abbrev pub GivesWords : Arguments → List (List ℕ) → Type 0
GivesWords (Ok args) words = words ≡ map string_bytes (drop 1 (into_iter_items args))
GivesWords (Err error) words = (error_kind error ≢ OutOfMemory) × (words ≡ [])
