use Rattle.machine_values.proofs.Small.{arith_given}
use Rattle.machine_expressions.proofs.numbers.compute.Goals as goal

pub returns-clause-given : goal.returns-clause-given
returns-clause-given c = λ sizes. c.judged.ensures.given sizes (arith_given sizes c.args.op c.args.x c.args.y c.arith.result c.arith.ensures)
