use Rattle.std.proofs.Common.{◌≡◌, ◌≤◌, drop}
use Rattle.trace_format.specs.Lines as lines
use Rattle.trace_format.proofs.lines.value_of.Given as goal

abbrev pub invariant-loop-b : goal.invariant-loop-b
invariant-loop-b l = (lines.value_from 0 l.digits ≡ lines.value_from l.value (drop l.b-index l.digits)) × (l.value ≤ 18446744073709551615)
