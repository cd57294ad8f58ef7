-- Laws of the meaning.
use Rattle.std.specs.Prelude.{◌≡◌, ℕ, zero, suc, ◌≤◌, Bool, List, [], ◌∷◌, ◌++◌, Some}
use Rattle.c_core.specs.declared.values.End.{End}
use Rattle.c_core.specs.Tree.{Program}
use Rattle.range_heap.specs.History.{Region}
use Rattle.c_meaning.specs.declared.log.LogEntry.{LogEntry}
use Rattle.c_meaning.specs.Run.{Run, Result, answered}
use Rattle.c_meaning.specs.Meaning.{Tokens, run_within, run_of}
use Rattle.c_meaning.specs.Log.{IsRun}

-- calls and loops that may go deeper than there are ticks change nothing
abbrev pub DepthsAgree : Type 0
DepthsAgree =
    (depth : ℕ) (c : Program) (marks : ℕ → ℕ) (input : List ℕ) (ticks : ℕ) → ticks ≤ depth
    → run_within depth c marks input ticks ≡ run_of c marks input ticks

-- the first answers of an endless row of them
abbrev pub answers : ℕ → (ℕ → Bool) → List Bool
answers zero row = []
answers (suc n) row = row 0 ∷ answers n (λ i. row (suc i))

-- whatever the answers are, the run needs some number of them
abbrev pub AnswersSuffice : Type 0
AnswersSuffice = (run : Run) (row : ℕ → Bool) → (n : ℕ) × (r : Result) × (answered run (answers n row) ≡ Some r)

-- and it needs no more
abbrev pub AnswersFit : Type 0
AnswersFit =
    (run : Run) (taken more : List Bool) (r r' : Result)
    → answered run taken ≡ Some r → answered run (taken ++ more) ≡ Some r' → more ≡ []

-- a run is one: it has at most one output, end and log
abbrev pub OneRun : Type 0
OneRun =
    (run : Run) (tok : Tokens) (ranges : ℕ → Region) (output output' : List ℕ) (end end' : End) (log log' : List LogEntry)
    → IsRun run tok ranges output end log → IsRun run tok ranges output' end' log'
    → (output ≡ output') × (end ≡ end') × (log ≡ log')
