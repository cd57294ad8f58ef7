-- What the parts of the program answer; no public contract names it.
use Rattle.std.specs.Prelude.{◌≡◌, ◌⊎◌, ℕ, List, Option, Some, IfSome, Result, Ok, Err}
use Rattle.tok_base.specs.Fault.{Rose}
use Rattle.tok_base.specs.Files.{Contents, Tally}
use Rattle.tok_base.specs.declared.status.Status.{Status}
use Rattle.tok_base.specs.declared.status.Status.TheVariants as status
use Rattle.tok_base.specs.declared.status.Which.TheVariants as which
use Rattle.trace_replay.specs.Replayed.{Replayed}
use Rattle.trace_replay.specs.Report.{report}
use Rattle.trace_format.specs.declared.trace.Trace.{Trace}
use Rattle.trace_format.specs.declared.trace.TraceEnd.{TraceEnd}
use Rattle.trace_format.specs.declared.trace.TraceEnd.TheVariants as end
use Rattle.trace_replay.specs.declared.histories.Histories.{Histories}
use Rattle.tokenreplay.specs.Course.{HasText, IsTooLong, Course, writes, refuses, TextComes, Comes, Change, Writes, line_of}
use Rattle.tokenreplay.specs.declared.course.Refusal.{Refusal}
use Rattle.tokenreplay.specs.declared.course.Refusal.TheVariants.{Usage, FileFault, TooLong, BadTrace, NoMemory}

abbrev pub status_of : Refusal → Status
status_of Usage = status.Usage
status_of FileFault = status.FileFault
status_of TooLong = status.TooLong which.Unit
status_of (BadTrace i rule) = status.BadTrace i rule
status_of NoMemory = status.NoMemory

-- why a text is no trace
abbrev pub refusal_of : TraceEnd → Refusal
refusal_of (end.Line i rule) = BadTrace i rule
refusal_of end.NoMemory = NoMemory

abbrev pub course_of : Result (List ℕ) Refusal → Course
course_of (Ok text) = writes text
course_of (Err refusal) = refuses (status_of refusal)

-- the text is the report of a replay of the trace
abbrev pub IsReport : Trace → List ℕ → Type 0
IsReport t text = (h : Histories) × (text ≡ report h) × Replayed t h

-- it is what the text comes to, unless memory ran out
abbrev pub Replays : List ℕ → Result (List ℕ) Refusal → Type 0
Replays text result = TextComes text (course_of result) ⊎ (result ≡ Err NoMemory)

-- the bytes of the file of this name, or why there are none
abbrev pub ReadsFile : Option Contents → Tally → Tally → List ℕ → Result (List ℕ) Refusal → Type 0
ReadsFile files tally now name (Ok text) = HasText files name text × (now ≡ tally)
ReadsFile files tally now name (Err FileFault) = Rose tally.faults now.faults × (now.failed ≡ Some name)
ReadsFile files tally now name (Err TooLong) = IfSome files (λ all. IsTooLong all name) × (now ≡ tally)
ReadsFile files tally now name (Err NoMemory) = now ≡ tally
ReadsFile files tally now name (Err Usage) = ⊥
ReadsFile files tally now name (Err (BadTrace i rule)) = ⊥

-- it is what the file of this name comes to
abbrev pub Serves : List ℕ → Option Contents → Tally → Tally → Result (List ℕ) Refusal → Type 0
Serves name files tally now result =
    ((text : List ℕ) × HasText files name text × (now ≡ tally) × Replays text result)
    ⊎ ((refusal : Refusal) × (result ≡ Err refusal) × ReadsFile files tally now name (Err refusal))

-- it is what the words and the files come to
abbrev pub Takes : List (List ℕ) → Option Contents → Tally → Tally → Result (List ℕ) Refusal → Type 0
Takes words files tally now result = Comes words files tally now (course_of result)

-- the text was to be written on the sink, or, where there was no memory for it, that refusal's line
abbrev pub WritesOrTells : Status → Status → Change → List ℕ → Type 0
WritesOrTells s good sink text = Writes s good sink text ⊎ Writes s status.NoMemory sink (line_of status.NoMemory)

-- the refusal's line was to be written on the sink
abbrev pub Tells : Status → Refusal → Change → Type 0
Tells s Usage sink = Writes s status.Usage sink (line_of status.Usage)
Tells s FileFault sink = Writes s status.FileFault sink (line_of status.FileFault)
Tells s TooLong sink = Writes s (status.TooLong which.Unit) sink (line_of (status.TooLong which.Unit))
Tells s (BadTrace i rule) sink = WritesOrTells s (status.BadTrace i rule) sink (line_of (status.BadTrace i rule))
Tells s NoMemory sink = Writes s status.NoMemory sink (line_of status.NoMemory)
