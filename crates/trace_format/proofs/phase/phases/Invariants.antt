use Rattle.trace_format.specs.Cut.{IsCut}
use Rattle.trace_format.proofs.phase.phases.Given as goal

abbrev pub invariant-loop-at : goal.invariant-loop-at
invariant-loop-at l = IsCut l.trace.events l.at l.at l.cutting.owners l.cutting.found l.cutting.start
