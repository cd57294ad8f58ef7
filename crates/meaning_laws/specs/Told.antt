-- What is seen of a run from outside: labels through their tokens alone, and no beginnings of expressions.
use Rattle.std.specs.Prelude.{◌≡◌, ℕ, Bool, List}
use Rattle.c_core.specs.declared.values.End.{End}
use Rattle.range_heap.specs.History.{Region}
use Rattle.c_meaning.specs.declared.log.LogEntry.{LogEntry}
use Rattle.c_meaning.specs.Run.{Run, Ended, Asks, Frees, Begins}
use Rattle.c_meaning.specs.Meaning.{Tokens, token_of}
use Rattle.c_meaning.specs.Log.{IsRun}

pub data Told : Type 0 where
  EndedAs : (output : List ℕ) (end : End) → Told
  AsksFor : (token size align : ℕ) → (granted : Bool → Told) → Told
  GivesBack : (request : ℕ) → Told → Told

-- a run as it is told, with its end seen in some way
abbrev pub told_with : (End → End) → Tokens → Run → Told
told_with seen tok (Ended output end) = EndedAs output (seen end)
told_with seen tok (Asks label size align go) = AsksFor (token_of tok label) size align (λ granted. told_with seen tok (go granted))
told_with seen tok (Frees j r) = GivesBack j (told_with seen tok r)
told_with seen tok (Begins r) = told_with seen tok r

abbrev pub told : Tokens → Run → Told
told tok run = told_with (λ end. end) tok run

-- what is told of a run decides its output, end and log
abbrev pub ToldDecides : Type 0
ToldDecides =
    (run run' : Run) (tok tok' : Tokens) (ranges : ℕ → Region) (output : List ℕ) (end : End) (log : List LogEntry)
    → told tok run ≡ told tok' run' → IsRun run tok ranges output end log → IsRun run' tok' ranges output end log
