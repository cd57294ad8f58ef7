use Rattle.std.proofs.Common.{◌≡◌, ◌+◌, drop}
use Rattle.c_constants.specs.Literals.{text_length}
use Rattle.body_rules.proofs.lengths.text_length.Given as goal

abbrev pub invariant-loop-text : goal.invariant-loop-text
invariant-loop-text l = text_length l.texts ≡ l.count + text_length (drop l.text-index l.texts)
