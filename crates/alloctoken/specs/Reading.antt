-- What the parts of the program answer; no public contract names it.
use Rattle.std.specs.Prelude.{◌≡◌, ◌⊎◌, ℕ, List, Option, Some, IfSome, Result, Ok, Err}
use Rattle.tok_base.specs.Fault.{Rose}
use Rattle.tok_base.specs.Files.{Contents, Tally}
use Rattle.tok_base.specs.declared.status.Status.{Status}
use Rattle.tok_base.specs.declared.status.Status.TheVariants as status
use Rattle.tok_base.specs.declared.status.Which.TheVariants as which
use Rattle.c_lexer.specs.Cut.{IsBad}
use Rattle.c_tree.specs.Bare.{bare_unit}
use Rattle.c_tree.specs.Depth.{IsFlat}
use Rattle.c_tree.specs.View.{view_unit}
use Rattle.c_tree.specs.declared.statement.Unit as tree
use Rattle.alloctoken.specs.Course.{Reads, GoesTooDeep, GoesWrongAt, HasText, IsTooLong, Course, writes, refuses, TextComes, Comes, Change, Writes, line_of}
use Rattle.command_line.specs.declared.options.Options.{Options}
use Rattle.alloctoken.specs.declared.course.Refusal.{Refusal}
use Rattle.alloctoken.specs.declared.course.Refusal.TheVariants.{Usage, FileFault, TooLong, Lex, Syntax, TooDeep, NoMemory}

abbrev pub status_of : Refusal → Status
status_of Usage = status.Usage
status_of FileFault = status.FileFault
status_of TooLong = status.TooLong which.Unit
status_of (Lex p) = status.Lex p
status_of (Syntax k) = status.Syntax k
status_of TooDeep = status.TooDeep
status_of NoMemory = status.NoMemory

abbrev pub course_of : Result (List ℕ) Refusal → Course
course_of (Ok text) = writes text
course_of (Err refusal) = refuses (status_of refusal)

-- the flat unit that the text reads as, or why there is none
abbrev pub ReadsUnit : List ℕ → Result tree.Unit Refusal → Type 0
ReadsUnit text (Ok unit) = Reads text (bare_unit (view_unit unit)) × IsFlat (bare_unit (view_unit unit))
ReadsUnit text (Err (Lex p)) = IsBad text p
ReadsUnit text (Err (Syntax k)) = GoesWrongAt k text
ReadsUnit text (Err TooDeep) = GoesTooDeep text
ReadsUnit text (Err NoMemory) = Prim.Unit {0}
ReadsUnit text (Err TooLong) = ⊥
ReadsUnit text (Err Usage) = ⊥
ReadsUnit text (Err FileFault) = ⊥

-- the bytes of the file of this name, or why there are none
abbrev pub ReadsFile : Option Contents → Tally → Tally → List ℕ → Result (List ℕ) Refusal → Type 0
ReadsFile files tally now name (Ok text) = HasText files name text × (now ≡ tally)
ReadsFile files tally now name (Err FileFault) = Rose tally.faults now.faults × (now.failed ≡ Some name)
ReadsFile files tally now name (Err TooLong) = IfSome files (λ all. IsTooLong all name) × (now ≡ tally)
ReadsFile files tally now name (Err NoMemory) = now ≡ tally
ReadsFile files tally now name (Err Usage) = ⊥
ReadsFile files tally now name (Err (Lex p)) = ⊥
ReadsFile files tally now name (Err (Syntax k)) = ⊥
ReadsFile files tally now name (Err TooDeep) = ⊥

-- it is what the text comes to, unless memory ran out
abbrev pub Rewrites : List ℕ → ℕ → Result (List ℕ) Refusal → Type 0
Rewrites text max result = TextComes text max (course_of result) ⊎ (result ≡ Err NoMemory)

-- it is what these options come to
abbrev pub Serves : Options → Option Contents → Tally → Tally → Result (List ℕ) Refusal → Type 0
Serves o files tally now result =
    ((text : List ℕ) × HasText files o.file text × (now ≡ tally) × Rewrites text o.max result)
    ⊎ ((refusal : Refusal) × (result ≡ Err refusal) × ReadsFile files tally now o.file (Err refusal))

-- it is what the words and the files come to
abbrev pub Takes : List (List ℕ) → Option Contents → Tally → Tally → Result (List ℕ) Refusal → Type 0
Takes words files tally now result = Comes words files tally now (course_of result)

-- the text was to be written on the sink, or, where there was no memory for it, that refusal's line
abbrev pub WritesNumbered : Status → Status → Change → List ℕ → Type 0
WritesNumbered s good sink text = Writes s good sink text ⊎ Writes s status.NoMemory sink (line_of status.NoMemory)

-- the refusal's line was to be written on the sink
abbrev pub Tells : Status → Refusal → Change → Type 0
Tells s Usage sink = Writes s status.Usage sink (line_of status.Usage)
Tells s FileFault sink = Writes s status.FileFault sink (line_of status.FileFault)
Tells s TooLong sink = Writes s (status.TooLong which.Unit) sink (line_of (status.TooLong which.Unit))
Tells s (Lex p) sink = WritesNumbered s (status.Lex p) sink (line_of (status.Lex p))
Tells s (Syntax k) sink = WritesNumbered s (status.Syntax k) sink (line_of (status.Syntax k))
Tells s TooDeep sink = Writes s status.TooDeep sink (line_of status.TooDeep)
Tells s NoMemory sink = Writes s status.NoMemory sink (line_of status.NoMemory)
