-- That a run exists.
use Rattle.std.specs.Prelude.{ℕ, List}
use Rattle.c_core.specs.declared.values.End.{End}
use Rattle.c_core.specs.Tree.{Program}
use Rattle.c_meaning.specs.declared.log.LogEntry.{LogEntry}
use Rattle.c_meaning.specs.Meaning.{Tokens}
use Rattle.c_meaning.specs.Log.{RunOf}

-- each program, with its tokens, its input, a number of steps and the ranges, has an output, an end and a log that are
-- those of a run. That there are no others is `OneRun`
abbrev pub RunExists : Type 0
RunExists =
    (c : Program) (tok : Tokens) (input : List ℕ) (steps count size : ℕ)
    → (output : List ℕ) × (end : End) × (log : List LogEntry) × RunOf c tok input steps count size output end log
