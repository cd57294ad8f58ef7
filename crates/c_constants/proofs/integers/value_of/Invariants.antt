use Rattle.std.proofs.Common.{◌≡◌, drop}
use Rattle.c_lexer.specs.Number as number
use Rattle.c_constants.proofs.integers.value_of.Given as goal

abbrev pub invariant-loop-digit : goal.invariant-loop-digit
invariant-loop-digit l = number.value_from l.radix 0 l.digits ≡ number.value_from l.radix l.value (drop l.digit-index l.digits)
