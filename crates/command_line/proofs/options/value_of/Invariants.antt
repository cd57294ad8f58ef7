use Rattle.std.proofs.Common.{◌≡◌, ◌≤◌, drop}
use Rattle.command_line.specs.Words as words
use Rattle.command_line.proofs.options.value_of.Given as goal

abbrev pub invariant-loop-b : goal.invariant-loop-b
invariant-loop-b l = (words.value_from 0 l.digits ≡ words.value_from l.value (drop l.b-index l.digits)) × (l.value ≤ 65536)
