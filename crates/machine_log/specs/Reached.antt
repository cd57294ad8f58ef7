-- How far a run has come: what its log says so far, and what is still to do.
use Rattle.std.specs.Prelude.{◌≡◌, ℕ, Bool, true, false, List, [], ◌∷◌, ◌++◌, Some, slice_get}
use Rattle.c_core.specs.declared.values.End.{End}
use Rattle.c_core.specs.Tree.{Program}
use Rattle.range_heap.specs.declared.call.HeapEvent.TheVariants as event
use Rattle.range_heap.specs.Blocks.{live}
use Rattle.range_heap.specs.History.{Region, FitsAt, MayFollow, LegalFrom}
use Rattle.c_meaning.specs.declared.log.LogEntry.{LogEntry}
use Rattle.c_meaning.specs.declared.log.LogEntry.TheVariants.{Grant, Refuse, Release}
use Rattle.c_meaning.specs.Run.{Label, Request, Run, Ended, Asks, Frees, Begins, answered}
use Rattle.c_meaning.specs.Meaning.{Tokens, token_of, run_of}
use Rattle.c_meaning.specs.Log.{answers_of, by_token, WasGranted, MatchesFrom, IsRun, ranges_of}

module _ (tok : Tokens) (ranges : ℕ → Region) where
  -- a run with this output and end, whose log is `more` behind the entries that are there already
  pub record Completes (run : Run) (done : List LogEntry) (output : List ℕ) (end : End) (more : List LogEntry) : Type 0 where
    pub requests : List Request
    pub means : answered run (answers_of more) ≡ Some (record { output = output; end = end; requests = requests })
    pub matches : MatchesFrom tok done requests more
    pub legal : (t : ℕ) → LegalFrom (ranges t) (by_token done t) (by_token more t)

  -- every release that is to come is of a live block, whatever is granted and refused before it
  abbrev pub Releases : Run → List LogEntry → Type 0
  Releases (Ended o e) log = Unit {0}
  Releases (Begins r) log = Releases r log
  Releases (Asks l s a go) log =
      (a ≡ 16)
      × ((p : ℕ) → FitsAt (ranges (token_of tok l)) (by_token log (token_of tok l)) s 16 p → Releases (go true) (log ++ Grant (token_of tok l) s p ∷ []))
      × Releases (go false) (log ++ Refuse (token_of tok l) s ∷ [])
  Releases (Frees j r) log = (t : ℕ) × (p : ℕ) × WasGranted (slice_get log j) t p × (live p (by_token log t) ≡ true) × Releases r (log ++ Release t p ∷ [])

  -- from the run, with this log, to what is still to do: each way to complete that completes the run
  pub record Reached (run : Run) (log : List LogEntry) (now : Run) : Type 0 where
    pub completes : (output : List ℕ) (end : End) (more : List LogEntry) → Completes now log output end more → IsRun run tok ranges output end (log ++ more)
    pub releases : Releases now log

-- ---- laws

-- a run that begins has reached itself
abbrev pub BeginsReached : Type 0
BeginsReached =
    (c : Program) (tok : Tokens) (input : List ℕ) (steps count size : ℕ)
    → Reached tok (ranges_of count size) (run_of c tok.mark input steps) [] (run_of c tok.mark input steps)

-- each thing that a run does next, with the entry that it adds to the log
pub record Advances (tok : Tokens) (ranges : ℕ → Region) (run : Run) (log : List LogEntry) : Type 0 where
  pub begun : (r : Run) → Reached tok ranges run log (Begins r) → Reached tok ranges run log r
  pub granted : (l : Label) (size align place : ℕ) (go : Bool → Run) → Reached tok ranges run log (Asks l size align go)
      → MayFollow (ranges (token_of tok l)) (by_token log (token_of tok l)) (event.Grant size place)
      → Reached tok ranges run (log ++ Grant (token_of tok l) size place ∷ []) (go true)
  pub refused : (l : Label) (size align : ℕ) (go : Bool → Run) → Reached tok ranges run log (Asks l size align go)
      → MayFollow (ranges (token_of tok l)) (by_token log (token_of tok l)) (event.Refuse size)
      → Reached tok ranges run (log ++ Refuse (token_of tok l) size ∷ []) (go false)
  pub released : (j t place : ℕ) (r : Run) → Reached tok ranges run log (Frees j r) → WasGranted (slice_get log j) t place → Reached tok ranges run (log ++ Release t place ∷ []) r
  -- what is given back is live
  pub is_live : (j t place : ℕ) (r : Run) → Reached tok ranges run log (Frees j r) → WasGranted (slice_get log j) t place → live place (by_token log t) ≡ true

-- at its end the run is one with this log
pub record Arrives (tok : Tokens) (ranges : ℕ → Region) (run : Run) (log : List LogEntry) : Type 0 where
  pub ended : (output : List ℕ) (end : End) → Reached tok ranges run log (Ended output end) → IsRun run tok ranges output end log
  -- and before it, the log is a prefix of that of a run
  pub prefix : (now : Run) → Reached tok ranges run log now → (output : List ℕ) × (end : End) × (more : List LogEntry) × IsRun run tok ranges output end (log ++ more)

abbrev pub RunsAdvance : Type 0
RunsAdvance = (tok : Tokens) (ranges : ℕ → Region) (run : Run) (log : List LogEntry) → Advances tok ranges run log × Arrives tok ranges run log
