-- What a library call does to a run, in memory and in its log.
use Rattle.std.specs.Prelude.{◌≡◌, ℕ, ◌<◌, ◌≤◌, List, length, Option, Some, None, Result, Ok, Err, slice_get, slice_index_or}
use Rattle.tok_base.specs.declared.token.Span.{Span}
use Rattle.tok_base.specs.declared.reason.Reason.TheVariants as reason
use Rattle.c_core.specs.declared.values.End.{End}
use Rattle.c_core.specs.declared.values.End.TheVariants.{Trap}
use Rattle.c_core.specs.Library.{LibraryFunction, library_functions}
use Rattle.c_core.specs.declared.values.Value.{Value}
use Rattle.c_core.specs.Blocks.{Blocks}
use Rattle.range_heap.specs.declared.call.HeapEvent.{HeapEvent}
use Rattle.range_heap.specs.declared.call.HeapEvent.TheVariants as event
use Rattle.range_heap.specs.History.{Region, call_of}
use Rattle.range_heap.specs.Ranges.{AllLegal}
use Rattle.range_heap.specs.Seen.{AllHeaps}
use Rattle.range_heap.specs.Steps.{histories, noted}
use Rattle.c_meaning.specs.declared.log.LogEntry.{LogEntry}
use Rattle.c_meaning.specs.declared.log.LogEntry.TheVariants.{Grant, Refuse}
use Rattle.c_meaning.specs.Run.{Run, Label}
use Rattle.c_meaning.specs.World.{State, M, ◌>>=◌, ◌>>◌, over, stop, act, request, release}
use Rattle.c_meaning.specs.Storage.{resized}
use Rattle.c_meaning.specs.Meaning.{Tokens, if_granted, library}
use Rattle.c_meaning.specs.Rules.{no_value}
use Rattle.machine_log.specs.Reached.{Reached}
use Rattle.machine_steps.specs.Measure.{beginnings}
use Rattle.machine_state.specs.declared.ledger.Ledger.{Ledger}
use Rattle.machine_state.specs.State.{state_in, regions, Keeps}

-- the tokens of a run: that of a site by its number, and the fallback token
abbrev pub AreTokens : Tokens → (sites : List ℕ) → (fallback : ℕ) → Type 0
AreTokens tok sites fallback = (tok.fallback ≡ fallback) × ((k : ℕ) → tok.site k ≡ slice_index_or sites k fallback)

-- from what is to do, with a log, to what is to do later, with a longer log
pub record Leads (tok : Tokens) (ranges : ℕ → Region) (log : List LogEntry) (before : Run) (log_now : List LogEntry) (now : Run) : Type 0 where
  pub reached : (run : Run) → Reached tok ranges run log before → Reached tok ranges run log_now now
  pub less : beginnings now ≤ beginnings before

-- what follows a value, or the end
abbrev pub continued : {A : Type 0} → Result A End → (A → State → Run) → State → Run
continued (Ok a) k s = k a s
continued (Err e) k s = over e s

-- a part of a call has given a value, or the end, whatever follows it; or there was no memory, and its log is that of a
-- run that goes on in some way
abbrev pub Runs : {E : Type 0} → (A : Type 0) → Tokens → M A → (bs : Blocks) (l : Ledger) (now : Blocks) (l_now : Ledger) → Result (Result A End) E → Type 0
Runs A tok m bs l now l_now (Ok r) =
    (k : A → State → Run) → Leads tok (regions l.ranges) l.rest.log.items (m k (state_in bs l)) l_now.rest.log.items (continued r k (state_in now l_now))
Runs A tok m bs l now l_now (Err e) =
    (k : A → State → Run) → (later : Run) × Leads tok (regions l.ranges) l.rest.log.items (m k (state_in bs l)) l_now.rest.log.items later

-- a part that gives a value, where there is memory
abbrev pub valued : {A E : Type 0} → Result A E → Result (Result A End) E
valued (Ok a) = Ok (Ok a)
valued (Err e) = Err e

-- what a library call leaves as it was
pub record Called (given : List ℕ) (l : Ledger) (given_now : List ℕ) (now : Ledger) : Type 0 where
  pub keeps : Keeps given l given_now now
  pub ticks : now.rest.ticks ≡ l.rest.ticks
  pub locals : now.rest.locals.items ≡ l.rest.locals.items

-- the entry for an answer of the heap
abbrev pub entry_for : (token size : ℕ) → Option ℕ → LogEntry
entry_for token size None = Refuse token size
entry_for token size (Some place) = Grant token size place

abbrev pub event_for : (size : ℕ) → Option ℕ → HeapEvent
event_for size None = event.Refuse size
event_for size (Some place) = event.Grant size place

-- one event more in the history of a token's range, if there is such a range
pub record IsNoted (old new : AllHeaps) (t : ℕ) (e : HeapEvent) : Type 0 where
  pub size : new.size ≡ old.size
  pub count : length new.heaps ≡ length old.heaps
  pub inside : t < length old.heaps → histories new ≡ noted (histories old) t (call_of 0 e)
  pub outside : length old.heaps ≤ t → histories new ≡ histories old
  pub legal : AllLegal new.size (histories new)

-- ---- the parts of a library function

-- 7.22.3.5: the contents, and then the old block is given back
abbrev pub moving : Span → (old size : ℕ) → (new : ℕ) → M (Unit {0})
moving span old size new = do
  act (resized span new old size)
  release old

abbrev pub moved : Span → Label → (old size : ℕ) → M Value
moved span label old size = do
  block ← request label size
  if_granted block (moving span old size)

-- a library function is called for a label
abbrev pub called_for : Option LibraryFunction → Span → Label → List Value → M Value
called_for None span label args = stop (Trap reason.NoBody span)
called_for (Some f) span label args = library f span label (slice_index_or args 0 no_value) (slice_index_or args 1 no_value) (slice_index_or args 2 no_value)

abbrev pub function_called : (function : ℕ) → Span → Label → List Value → M Value
function_called f span label args = called_for (slice_get library_functions f) span label args
