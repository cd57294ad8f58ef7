use Rattle.std.proofs.Common.{true}
use Rattle.c_meaning.specs.Rules as rules
use Rattle.machine_expressions.proofs.Integers.{same_given}
use Rattle.machine_expressions.proofs.first.either.Goals as goal

pub returns-then-holds-clause-given : goal.returns-then-holds-clause-given
returns-then-holds-clause-given c = λ sizes. c.gives.ensures.given sizes (same_given sizes c.truth_value.result (rules.truth_value true) c.truth_value.ensures tt)
