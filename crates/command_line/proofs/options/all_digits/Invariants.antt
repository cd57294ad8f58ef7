use Rattle.std.proofs.Common.{◌≡◌, drop}
use Rattle.command_line.specs.Words as words
use Rattle.command_line.proofs.options.all_digits.Given as goal

abbrev pub invariant-loop-b : goal.invariant-loop-b
invariant-loop-b l = words.all_digits l.word ≡ words.all_digits (drop l.b-index l.word)
