use Rattle.std.proofs.Common.{◌≡◌, drop}
use Rattle.trace_format.specs.Lines as lines
use Rattle.trace_format.proofs.lines.all_digits.Given as goal

abbrev pub invariant-loop-b : goal.invariant-loop-b
invariant-loop-b l = lines.all_digits l.word ≡ lines.all_digits (drop l.b-index l.word)
