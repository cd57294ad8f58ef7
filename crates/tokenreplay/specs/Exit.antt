-- How the process ends.
use Rattle.std.specs.Prelude.{◌≡◌, ℕ, List, Option}
use Rattle.tok_base.specs.Files.{Contents, Tally}
use Rattle.tok_base.specs.Status.{code_of}
use Rattle.tok_base.specs.declared.status.Status.{Status}
use Rattle.tok_base.specs.declared.status.Status.TheVariants.{NoMemory}
use Rattle.command_line.specs.Arguments.{Arguments, GivesWords}
use Rattle.tokenreplay.specs.Course.{Change, Runs, Stays}

-- with these arguments and this exit status: the program ran on the words that the arguments give, and the exit status is
-- the number of the status that it ended with; or there was no memory for the words, and nothing was read or written
pub data Exits (args : Arguments) (files : Option Contents) (tally now : Tally) (code : ℕ) (out report : Change) : Type 0 where
  ran : (words : List (List ℕ)) (status : Status) → GivesWords args words → Runs words files tally now status out report
      → code ≡ code_of status → Exits args files tally now code out report
  starved : now ≡ tally → Stays out → Stays report → code ≡ code_of NoMemory → Exits args files tally now code out report
