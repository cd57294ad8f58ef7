-- The exit status of each end of a program.
use Rattle.std.specs.Prelude.{ℕ}
use Rattle.tok_base.specs.declared.status.Which.TheVariants as which
use Rattle.tok_base.specs.declared.status.UnitFault.{UnitFault}
use Rattle.tok_base.specs.declared.status.UnitFault.TheVariants as fault
use Rattle.tok_base.specs.declared.status.Status.{Status}
use Rattle.tok_base.specs.declared.status.Status.TheVariants.{Done, Usage, FileFault, ReadFault, WriteFault, TooLong, Lex, Syntax, Check, NoMemory, Trap, Spent, StackFull, OutputFull, TooDeep, ReservedName, Stateful, BadTrace, InUnit, Clash, NoMain, NoBlock}

-- the status of a unit that is refused so on its own
abbrev pub status_of : UnitFault → Status
status_of fault.TooLong = TooLong which.Unit
status_of (fault.Lex place) = Lex place
status_of (fault.Syntax place) = Syntax place
status_of fault.TooDeep = TooDeep
status_of (fault.Check rule span) = Check rule span
status_of (fault.ReservedName span) = ReservedName span
status_of (fault.Stateful span) = Stateful span

abbrev pub code_of_fault : UnitFault → ℕ
code_of_fault fault.TooLong = 6
code_of_fault (fault.Lex place) = 7
code_of_fault (fault.Syntax place) = 8
code_of_fault (fault.Check rule span) = 9
code_of_fault fault.TooDeep = 15
code_of_fault (fault.ReservedName span) = 16
code_of_fault (fault.Stateful span) = 17

-- one of several units that is refused has the exit status that it would have on its own
abbrev pub code_of : Status → ℕ
code_of Done = 0
code_of Usage = 2
code_of FileFault = 3
code_of ReadFault = 4
code_of WriteFault = 5
code_of (TooLong which) = 6
code_of (Lex place) = 7
code_of (Syntax place) = 8
code_of (Check rule span) = 9
code_of NoMemory = 10
code_of (Trap reason span) = 11
code_of Spent = 12
code_of StackFull = 13
code_of OutputFull = 14
code_of TooDeep = 15
code_of (ReservedName span) = 16
code_of (Stateful span) = 17
code_of (BadTrace line rule) = 18
code_of (InUnit unit fault) = code_of_fault fault
code_of (Clash unit span) = 21
code_of NoMain = 22
code_of NoBlock = 23
