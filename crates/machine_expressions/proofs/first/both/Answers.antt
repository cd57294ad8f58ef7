use Rattle.std.proofs.Common.{false}
use Rattle.c_meaning.specs.Rules as rules
use Rattle.machine_expressions.proofs.Integers.{same_given}
use Rattle.machine_expressions.proofs.first.both.Goals as goal

pub returns-else-holds-clause-given : goal.returns-else-holds-clause-given
returns-else-holds-clause-given c = λ sizes. c.gives.ensures.given sizes (same_given sizes c.truth_value.result (rules.truth_value false) c.truth_value.ensures tt)
