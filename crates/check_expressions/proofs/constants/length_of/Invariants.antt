use Rattle.std.proofs.Common.{◌≡◌, ◌+◌, drop}
use Rattle.c_constants.specs.Literals.{text_length}
use Rattle.check_expressions.proofs.constants.length_of.Given as goal

abbrev pub invariant-loop-text : goal.invariant-loop-text
invariant-loop-text l = text_length l.texts ≡ l.count + text_length (drop l.text-index l.texts)
