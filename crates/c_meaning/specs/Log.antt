-- Which logs of the heap are logs of a run.
use Rattle.std.specs.Prelude.{◌≡◌, ℕ, Bool, true, false, List, [], ◌∷◌, ◌++◌, Option, Some, None, slice_get, nat_eq, nat_lt, if◌then◌else◌}
use Rattle.c_core.specs.declared.values.End.{End}
use Rattle.c_core.specs.Tree.{Program}
use Rattle.range_heap.specs.declared.call.HeapCall.{HeapCall}
use Rattle.range_heap.specs.declared.call.HeapEvent.TheVariants as event
use Rattle.range_heap.specs.History.{Region, region, Legal, call_of}
use Rattle.range_heap.specs.Ranges.{range_at}
use Rattle.c_meaning.specs.declared.log.LogEntry.{LogEntry}
use Rattle.c_meaning.specs.declared.log.LogEntry.TheVariants.{Grant, Refuse, Release}
use Rattle.c_meaning.specs.Run.{Run, Request, Alloc, Free, answered}
use Rattle.c_meaning.specs.Meaning.{Tokens, token_of, run_of}

-- granted and refused, in order
abbrev pub answers_of : List LogEntry → List Bool
answers_of [] = []
answers_of (Grant t s p ∷ log) = true ∷ answers_of log
answers_of (Refuse t s ∷ log) = false ∷ answers_of log
answers_of (Release t p ∷ log) = answers_of log

-- what the log says of one token, as a history
abbrev pub by_token : List LogEntry → ℕ → List HeapCall
by_token [] token = []
by_token (Grant t s p ∷ log) token = (if nat_eq t token then call_of 0 (event.Grant s p) ∷ [] else []) ++ by_token log token
by_token (Refuse t s ∷ log) token = (if nat_eq t token then call_of 0 (event.Refuse s) ∷ [] else []) ++ by_token log token
by_token (Release t p ∷ log) token = (if nat_eq t token then call_of 0 (event.Release p) ∷ [] else []) ++ by_token log token

-- the entry granted this place for this token
abbrev pub WasGranted : Option LogEntry → (token place : ℕ) → Type 0
WasGranted (Some (Grant t s p)) token place = (t ≡ token) × (p ≡ place)
WasGranted (Some (Refuse t s)) token place = ⊥
WasGranted (Some (Release t p)) token place = ⊥
WasGranted None token place = ⊥

-- the requests that follow an earlier part of the log stand beside its further entries: a request for storage
-- beside its grant or refusal, with its token, a release beside one of the place that the request with its number,
-- in the earlier part, was granted
abbrev pub MatchesFrom : Tokens → (earlier : List LogEntry) → List Request → List LogEntry → Type 0
MatchesFrom tok earlier [] [] = Unit {0}
MatchesFrom tok earlier [] (x ∷ log) = ⊥
MatchesFrom tok earlier (q ∷ qs) [] = ⊥
MatchesFrom tok earlier (Alloc l s a ∷ qs) (Grant t z p ∷ log) = (t ≡ token_of tok l) × (z ≡ s) × (a ≡ 16) × MatchesFrom tok (earlier ++ Grant t z p ∷ []) qs log
MatchesFrom tok earlier (Alloc l s a ∷ qs) (Refuse t z ∷ log) = (t ≡ token_of tok l) × (z ≡ s) × (a ≡ 16) × MatchesFrom tok (earlier ++ Refuse t z ∷ []) qs log
MatchesFrom tok earlier (Alloc l s a ∷ qs) (Release t p ∷ log) = ⊥
MatchesFrom tok earlier (Free j ∷ qs) (Release t p ∷ log) = WasGranted (slice_get earlier j) t p × MatchesFrom tok (earlier ++ Release t p ∷ []) qs log
MatchesFrom tok earlier (Free j ∷ qs) (Grant t z p ∷ log) = ⊥
MatchesFrom tok earlier (Free j ∷ qs) (Refuse t z ∷ log) = ⊥

abbrev pub Matches : List Request → List LogEntry → Tokens → Type 0
Matches requests log tok = MatchesFrom tok [] requests log

-- this output, end and log are those of a run, under the tokens and the range of each token
pub record IsRun (run : Run) (tok : Tokens) (ranges : ℕ → Region) (output : List ℕ) (end : End) (log : List LogEntry) : Type 0 where
  pub requests : List Request
  pub means : answered run (answers_of log) ≡ Some (record { output = output; end = end; requests = requests })
  pub matches : Matches requests log tok
  pub legal : (t : ℕ) → Legal (ranges t) (by_token log t)

-- `count` ranges of `size` bytes; every other token has an empty one
abbrev pub ranges_of : (count size : ℕ) → ℕ → Region
ranges_of count size t = if nat_lt t count then range_at size t else region 0 0

-- the run of a program with these tokens and this input, with so many steps and ranges
abbrev pub RunOf : Program → Tokens → (input : List ℕ) → (steps count size : ℕ) → (output : List ℕ) → (end : End) → (log : List LogEntry) → Type 0
RunOf c tok input steps count size output end log = IsRun (run_of c tok.mark input steps) tok (ranges_of count size) output end log
