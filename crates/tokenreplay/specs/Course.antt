-- What a run of the program comes to.
use Rattle.std.specs.Prelude.{◌≡◌, ℕ, ◌<◌, ◌≤◌, ◌⊎◌, Bool, false, not, eqb, codes, decimal, ◌++◌, List, [], ◌∷◌, Option, Some, None, Ok, Err, IfSome, length, if◌then◌else◌}
use Rattle.std.specs.Io.KnownBytes.{Appends}
use Rattle.tok_base.specs.Fault.{Rose}
use Rattle.tok_base.specs.Files.{Contents, Tally}
use Rattle.tok_base.specs.Sink.{AppendsFront}
use Rattle.tok_base.specs.declared.status.Status.{Status}
use Rattle.tok_base.specs.declared.status.Status.TheVariants.{Done, Usage, FileFault, WriteFault, TooLong, Lex, Syntax, NoMemory, TooDeep, ReadFault, Check, Trap, Spent, StackFull, OutputFull, ReservedName, Stateful, BadTrace, InUnit, Clash, NoMain, NoBlock}
use Rattle.tok_base.specs.declared.status.TraceRule.{TraceRule}
use Rattle.tok_base.specs.declared.status.TraceRule.TheVariants.{Many, Form, Range, Name, Freed}
use Rattle.tok_base.specs.declared.status.Which.TheVariants as which
use Rattle.trace_format.specs.Lines.{lines}
use Rattle.trace_format.specs.Reading.{trace_in}
use Rattle.trace_format.specs.declared.trace.Trace.{Trace}
use Rattle.trace_format.specs.declared.trace.TraceEnd.TheVariants.{Line}
use Rattle.trace_replay.specs.Replayed.{Replayed}
use Rattle.trace_replay.specs.Report.{report}
use Rattle.trace_replay.specs.declared.histories.Histories.{Histories}

-- ---- the words

-- it isn't empty and doesn't begin with `-`
abbrev pub is_plain : List ℕ → Bool
is_plain [] = false
is_plain (b ∷ bs) = not (eqb b 45)

-- one word, the name of a file; none where the words are none that the program takes
abbrev pub file_of : List (List ℕ) → Option (List ℕ)
file_of [] = None
file_of (w ∷ []) = if is_plain w then Some w else None
file_of (w ∷ v ∷ ws) = None

-- ---- the file

-- a trace has at most so many bytes
abbrev pub trace_limit : ℕ
trace_limit = 67108864

-- the file is longer than a trace may be
abbrev pub IsTooLong : Contents → List ℕ → Type 0
IsTooLong all name = (text : List ℕ) × (all name ≡ Some text) × (trace_limit < length text)

-- the file of this name, where the files are told, has this text, and it is no longer than a trace may be
abbrev pub HasText : Option Contents → List ℕ → List ℕ → Type 0
HasText files name text = IfSome files (λ all. all name ≡ Some text) × (length text ≤ trace_limit)

-- line i is the first of the text that breaks a rule, and this is the first that it breaks
abbrev pub IsBroken : ℕ → TraceRule → List ℕ → Type 0
IsBroken i rule text = trace_in (lines text) ≡ Err (Line i rule)

-- ---- the course of a run

-- a run writes a text on out, or a refusal's line on report
pub data Course : Type 0 where
  writes : List ℕ → Course
  refuses : Status → Course

-- what a text comes to: its first broken line, or the report of a replay of its trace
pub data TextComes (text : List ℕ) : Course → Type 0 where
  bad_trace : (i : ℕ) (rule : TraceRule) → IsBroken i rule text → TextComes text (refuses (BadTrace i rule))
  reported : (t : Trace) (h : Histories) → trace_in (lines text) ≡ Ok t → Replayed t h → TextComes text (writes (report h))

-- what the words and the files come to, where tally is the files' before the run and now after it
pub data Comes (words : List (List ℕ)) (files : Option Contents) (tally now : Tally) : Course → Type 0 where
  usage : file_of words ≡ None → now ≡ tally → Comes words files tally now (refuses Usage)
  file_fault : (name : List ℕ) → file_of words ≡ Some name → Rose tally.faults now.faults → now.failed ≡ Some name
      → Comes words files tally now (refuses FileFault)
  too_long : (name : List ℕ) → file_of words ≡ Some name → IfSome files (λ all. IsTooLong all name) → now ≡ tally
      → Comes words files tally now (refuses (TooLong which.Unit))
  read : (name text : List ℕ) (course : Course) → file_of words ≡ Some name → HasText files name text
      → TextComes text course → now ≡ tally → Comes words files tally now course
  no_memory : now ≡ tally → Comes words files tally now (refuses NoMemory)

abbrev pub rule_name : TraceRule → List ℕ
rule_name Many = codes "Many"
rule_name Form = codes "Form"
rule_name Range = codes "Range"
rule_name Name = codes "Name"
rule_name Freed = codes "Freed"

-- the line of a refusal; the last ones are no refusals of this program, and have none
abbrev pub line_of : Status → List ℕ
line_of Usage = codes "usage: tokenreplay FILE" ++ 10 ∷ []
line_of FileFault = codes "file fault" ++ 10 ∷ []
line_of (TooLong which.Unit) = codes "unit too long" ++ 10 ∷ []
line_of (TooLong which.Input) = codes "input too long" ++ 10 ∷ []
line_of (BadTrace i rule) = codes "trace line " ++ decimal i ++ codes ": " ++ rule_name rule ++ 10 ∷ []
line_of NoMemory = codes "no memory" ++ 10 ∷ []
line_of WriteFault = []
line_of Done = []
line_of ReadFault = []
line_of (Lex p) = []
line_of (Syntax k) = []
line_of TooDeep = []
line_of (Check rule span) = []
line_of (Trap reason span) = []
line_of Spent = []
line_of StackFull = []
line_of OutputFull = []
line_of (ReservedName span) = []
line_of (Stateful span) = []
line_of (InUnit unit fault) = []
line_of (Clash unit span) = []
line_of NoMain = []
line_of NoBlock = []

-- a sink: the bytes that it tells, and its count of faults
pub record Written : Type 0 where
  pub bytes : Option (List ℕ)
  pub faults : ℕ

-- all of the text was written, and no write failed
pub record Holds (old new : Written) (text : List ℕ) : Type 0 where
  pub bytes : Appends old.bytes new.bytes text
  pub kept : new.faults ≡ old.faults

-- a write failed, after a front of the text
pub record Fails (old new : Written) (text : List ℕ) : Type 0 where
  pub front : AppendsFront old.bytes new.bytes text
  pub rose : Rose old.faults new.faults

-- a sink before and after the run
pub record Change : Type 0 where
  pub old : Written
  pub new : Written

abbrev pub change : Option (List ℕ) → ℕ → Option (List ℕ) → ℕ → Change
change b f c g = record { old = record { bytes = b; faults = f }; new = record { bytes = c; faults = g } }

-- the text was to be written on the sink: the status is this one where all of it was, and else a write failed
abbrev pub Writes : Status → Status → Change → List ℕ → Type 0
Writes status good sink text = ((status ≡ good) × Holds sink.old sink.new text) ⊎ ((status ≡ WriteFault) × Fails sink.old sink.new text)

-- nothing was written on the sink
abbrev pub Stays : Change → Type 0
Stays sink = sink.new ≡ sink.old

-- how a run that takes this course ends
abbrev pub Ends : Course → Status → Change → Change → Type 0
Ends (writes text) status out report = Writes status Done out text × Stays report
Ends (refuses refusal) status out report = Writes status refusal report (line_of refusal) × Stays out

-- what a run does
pub record Runs (words : List (List ℕ)) (files : Option Contents) (tally now : Tally) (status : Status) (out report : Change) : Type 0 where
  pub course : Course
  pub comes : Comes words files tally now course
  pub ends : Ends course status out report

-- ---- what is due where nothing fails

-- the course that is due
pub data Due (words : List (List ℕ)) (all : Contents) : Course → Type 0 where
  due_usage : file_of words ≡ None → Due words all (refuses Usage)
  due_too_long : (name : List ℕ) → file_of words ≡ Some name → IsTooLong all name → Due words all (refuses (TooLong which.Unit))
  due_text : (name text : List ℕ) (course : Course) → file_of words ≡ Some name → HasText (Some all) name text
      → TextComes text course → Due words all course

-- a course's status, and what is to be written on out and on report
abbrev pub status_of : Course → Status
status_of (writes text) = Done
status_of (refuses refusal) = refusal

abbrev pub out_of : Course → List ℕ
out_of (writes text) = text
out_of (refuses refusal) = []

abbrev pub report_of : Course → List ℕ
report_of (writes text) = []
report_of (refuses refusal) = line_of refusal

-- the due status is answered, and the due bytes are written
pub record IsDue (words : List (List ℕ)) (all : Contents) (status : Status) (out report : Change) : Type 0 where
  pub course : Course
  pub due : Due words all course
  pub answered : status ≡ status_of course
  pub out_holds : Appends out.old.bytes out.new.bytes (out_of course)
  pub report_holds : Appends report.old.bytes report.new.bytes (report_of course)

-- the text of the file that the words name was read, and what was written is the report of a replay of its trace
pub record Reports (words : List (List ℕ)) (files : Option Contents) (out : Change) : Type 0 where
  pub name : List ℕ
  pub text : List ℕ
  pub trace : Trace
  pub histories : Histories
  pub asked : file_of words ≡ Some name
  pub file : HasText files name text
  pub reads : trace_in (lines text) ≡ Ok trace
  pub replayed : Replayed trace histories
  pub written : Appends out.old.bytes out.new.bytes (report histories)

-- ---- the causes of refusals

-- the words name a file that is too long
abbrev pub NamesTooLong : List (List ℕ) → Option Contents → Type 0
NamesTooLong words files = (name : List ℕ) × (file_of words ≡ Some name) × IfSome files (λ all. IsTooLong all name)

-- the words name a file whose text, no longer than a trace may be, is so
pub record NamesText (words : List (List ℕ)) (files : Option Contents) (IsSo : List ℕ → Type 0) : Type 0 where
  pub name : List ℕ
  pub text : List ℕ
  pub asked : file_of words ≡ Some name
  pub file : HasText files name text
  pub is : IsSo text
