-- What follows from the definitions alone.
use Rattle.std.specs.Prelude.{◌≡◌, Ok}
use Rattle.trace_format.specs.Lines.{lines}
use Rattle.trace_format.specs.Reading.{trace_in}
use Rattle.trace_format.specs.WellFormed.{WellFormed}
use Rattle.trace_format.specs.Text.{trace_text}
use Rattle.trace_format.specs.declared.trace.Trace.{Trace}

-- the text of a well-formed trace is read as that trace
abbrev pub ReadBack : Type 0
ReadBack = (t : Trace) → WellFormed t → trace_in (lines (trace_text t)) ≡ Ok t
