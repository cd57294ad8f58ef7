-- What a run of the program comes to.
use Rattle.std.specs.Prelude.{◌≡◌, ℕ, ◌<◌, ◌≤◌, ◌⊎◌, codes, decimal, ◌++◌, List, [], ◌∷◌, Option, Some, None, IfSome, length}
use Rattle.std.specs.Io.KnownBytes.{Appends}
use Rattle.tok_base.specs.Fault.{Rose}
use Rattle.tok_base.specs.Files.{Contents, Tally}
use Rattle.tok_base.specs.Sink.{AppendsFront}
use Rattle.tok_base.specs.declared.status.Status.{Status}
use Rattle.tok_base.specs.declared.status.Status.TheVariants.{Done, Usage, FileFault, WriteFault, TooLong, Lex, Syntax, NoMemory, TooDeep, ReadFault, Check, Trap, Spent, StackFull, OutputFull, ReservedName, Stateful, BadTrace, InUnit, Clash, NoMain, NoBlock}
use Rattle.tok_base.specs.declared.status.Which.TheVariants as which
use Rattle.tok_base.specs.declared.token.Lexeme.{Lexeme}
use Rattle.c_lexer.specs.Cut.{IsBad}
use Rattle.c_lexer.specs.Lexeme.{LexesTo}
use Rattle.c_tree.specs.Tree.{External}
use Rattle.c_tree.specs.Wf.{WfUnit}
use Rattle.c_tree.specs.Depth.{IsFlat}
use Rattle.c_tree.specs.Reading.{spelled, IsUnit, IsPlace, IsDeep}
use Rattle.c_tree.specs.Printed.{unit_text}
use Rattle.call_rewriter.specs.Tagged.{tagged}
use Rattle.command_line.specs.declared.options.Options.{Options}
use Rattle.command_line.specs.Options.{options_of}

-- ---- what a text is

-- it reads as this unit: well formed, and the text is the tokens that it spells
abbrev pub Reads : List ℕ → List External → Type 0
Reads text u = WfUnit [] u × LexesTo text (spelled u)

-- its tokens are no unit's. Those of first begin one, and with the token behind them they begin none
pub record GoesWrong (text : List ℕ) (first : List Lexeme) : Type 0 where
  pub rest : List Lexeme
  pub lexes : LexesTo text (first ++ rest)
  pub none : IsUnit (first ++ rest) → ⊥
  pub place : IsPlace first rest

-- it reads as a unit whose nodes nest too deep; or it goes wrong behind tokens with which no unit begins whose nodes don't
pub data GoesTooDeep (text : List ℕ) : Type 0 where
  is_deep : (u : List External) → Reads text u → (IsFlat u → ⊥) → GoesTooDeep text
  begins_deep : (first : List Lexeme) → GoesWrong text first → IsDeep first → GoesTooDeep text

-- a unit has at most so many bytes
abbrev pub unit_limit : ℕ
unit_limit = 1048576

-- the file is longer than a unit may be
abbrev pub IsTooLong : Contents → List ℕ → Type 0
IsTooLong all name = (text : List ℕ) × (all name ≡ Some text) × (unit_limit < length text)

-- the file of this name, where the files are told, has this text, and it is no longer than a unit may be
abbrev pub HasText : Option Contents → List ℕ → List ℕ → Type 0
HasText files name text = IfSome files (λ all. all name ≡ Some text) × (length text ≤ unit_limit)

-- ---- the course of a run

-- a run writes a text on out, or a refusal's line on report
pub data Course : Type 0 where
  writes : List ℕ → Course
  refuses : Status → Course

-- what a text comes to, with so many tokens: one of these. Where the tokens go wrong behind some with which no flat unit
-- begins, both Syntax and TooDeep may be answered
pub data TextComes (text : List ℕ) (max : ℕ) : Course → Type 0 where
  bad_character : (p : ℕ) → IsBad text p → TextComes text max (refuses (Lex p))
  syntax : (first : List Lexeme) → GoesWrong text first → TextComes text max (refuses (Syntax (length first)))
  too_deep : GoesTooDeep text → TextComes text max (refuses TooDeep)
  rewritten : (u : List External) → Reads text u → IsFlat u → TextComes text max (writes (unit_text (tagged max u)))

-- what the words and the files come to, where tally is the files' before the run and now after it
pub data Comes (words : List (List ℕ)) (files : Option Contents) (tally now : Tally) : Course → Type 0 where
  usage : options_of words ≡ None → now ≡ tally → Comes words files tally now (refuses Usage)
  file_fault : (o : Options) → options_of words ≡ Some o → Rose tally.faults now.faults → now.failed ≡ Some o.file
      → Comes words files tally now (refuses FileFault)
  too_long : (o : Options) → options_of words ≡ Some o → IfSome files (λ all. IsTooLong all o.file) → now ≡ tally
      → Comes words files tally now (refuses (TooLong which.Unit))
  read : (o : Options) (text : List ℕ) (course : Course) → options_of words ≡ Some o → HasText files o.file text
      → TextComes text o.max course → now ≡ tally → Comes words files tally now course
  no_memory : now ≡ tally → Comes words files tally now (refuses NoMemory)

abbrev pub usage_line : List ℕ
usage_line = codes "usage: alloctoken rewrite|tokens|exec|run|sample [options] FILE" ++ 10 ∷ []

-- the line of a refusal; the last ones are no refusals of this program, and have none
abbrev pub line_of : Status → List ℕ
line_of Usage = usage_line
line_of FileFault = codes "file fault" ++ 10 ∷ []
line_of (TooLong which.Unit) = codes "unit too long" ++ 10 ∷ []
line_of (TooLong which.Input) = codes "input too long" ++ 10 ∷ []
line_of (Lex p) = codes "bad character at " ++ decimal p ++ 10 ∷ []
line_of (Syntax k) = codes "syntax at token " ++ decimal k ++ 10 ∷ []
line_of TooDeep = codes "too deep" ++ 10 ∷ []
line_of NoMemory = codes "no memory" ++ 10 ∷ []
line_of WriteFault = []
line_of Done = []
line_of ReadFault = []
line_of (Check rule span) = []
line_of (Trap reason span) = []
line_of Spent = []
line_of StackFull = []
line_of OutputFull = []
line_of (ReservedName span) = []
line_of (Stateful span) = []
line_of (BadTrace line rule) = []
line_of (InUnit unit fault) = []
line_of (Clash unit span) = []
line_of NoMain = []
line_of NoBlock = []

-- a sink: the bytes that it tells, and its count of faults
pub record Written : Type 0 where
  pub bytes : Option (List ℕ)
  pub faults : ℕ

-- all of the text was written, and no write failed
pub record Holds (old new : Written) (text : List ℕ) : Type 0 where
  pub bytes : Appends old.bytes new.bytes text
  pub kept : new.faults ≡ old.faults

-- a write failed, after a front of the text
pub record Fails (old new : Written) (text : List ℕ) : Type 0 where
  pub front : AppendsFront old.bytes new.bytes text
  pub rose : Rose old.faults new.faults

-- a sink before and after the run
pub record Change : Type 0 where
  pub old : Written
  pub new : Written

abbrev pub change : Option (List ℕ) → ℕ → Option (List ℕ) → ℕ → Change
change b f c g = record { old = record { bytes = b; faults = f }; new = record { bytes = c; faults = g } }

-- the text was to be written on the sink: the status is this one where all of it was, and else a write failed
abbrev pub Writes : Status → Status → Change → List ℕ → Type 0
Writes status good sink text = ((status ≡ good) × Holds sink.old sink.new text) ⊎ ((status ≡ WriteFault) × Fails sink.old sink.new text)

-- nothing was written on the sink
abbrev pub Stays : Change → Type 0
Stays sink = sink.new ≡ sink.old

-- how a run that takes this course ends
abbrev pub Ends : Course → Status → Change → Change → Type 0
Ends (writes text) status out report = Writes status Done out text × Stays report
Ends (refuses refusal) status out report = Writes status refusal report (line_of refusal) × Stays out

-- what a run does
pub record Runs (words : List (List ℕ)) (files : Option Contents) (tally now : Tally) (status : Status) (out report : Change) : Type 0 where
  pub course : Course
  pub comes : Comes words files tally now course
  pub ends : Ends course status out report

-- ---- what is due where nothing fails

-- the course that is due
pub data Due (words : List (List ℕ)) (all : Contents) : Course → Type 0 where
  due_usage : options_of words ≡ None → Due words all (refuses Usage)
  due_too_long : (o : Options) → options_of words ≡ Some o → IsTooLong all o.file → Due words all (refuses (TooLong which.Unit))
  due_text : (o : Options) (text : List ℕ) (course : Course) → options_of words ≡ Some o → HasText (Some all) o.file text
      → TextComes text o.max course → Due words all course

-- a course's status, and what is to be written on out and on report
abbrev pub status_of : Course → Status
status_of (writes text) = Done
status_of (refuses refusal) = refusal

abbrev pub out_of : Course → List ℕ
out_of (writes text) = text
out_of (refuses refusal) = []

abbrev pub report_of : Course → List ℕ
report_of (writes text) = []
report_of (refuses refusal) = line_of refusal

-- the due status is answered, and the due bytes are written
pub record IsDue (words : List (List ℕ)) (all : Contents) (status : Status) (out report : Change) : Type 0 where
  pub course : Course
  pub due : Due words all course
  pub answered : status ≡ status_of course
  pub out_holds : Appends out.old.bytes out.new.bytes (out_of course)
  pub report_holds : Appends report.old.bytes report.new.bytes (report_of course)

-- the text of the file that the words name was read, and what was written reads as its unit with the sites tagged
pub record ReadsBack (words : List (List ℕ)) (files : Option Contents) (out : Change) : Type 0 where
  pub options : Options
  pub text : List ℕ
  pub unit : List External
  pub asked : options_of words ≡ Some options
  pub file : HasText files options.file text
  pub reads : Reads text unit
  pub flat : IsFlat unit
  pub written : Appends out.old.bytes out.new.bytes (unit_text (tagged options.max unit))
  pub again : Reads (unit_text (tagged options.max unit)) (tagged options.max unit)
  pub again_flat : IsFlat (tagged options.max unit)

-- ---- the causes of refusals

-- the words name a file that is too long
abbrev pub NamesTooLong : List (List ℕ) → Option Contents → Type 0
NamesTooLong words files = (o : Options) × (options_of words ≡ Some o) × IfSome files (λ all. IsTooLong all o.file)

-- the words name a file whose text, no longer than a unit may be, is so
pub record NamesText (words : List (List ℕ)) (files : Option Contents) (IsSo : List ℕ → Type 0) : Type 0 where
  pub options : Options
  pub text : List ℕ
  pub asked : options_of words ≡ Some options
  pub file : HasText files options.file text
  pub is : IsSo text

-- the text goes wrong behind k tokens
abbrev pub GoesWrongAt : ℕ → List ℕ → Type 0
GoesWrongAt k text = (first : List Lexeme) × (length first ≡ k) × GoesWrong text first
