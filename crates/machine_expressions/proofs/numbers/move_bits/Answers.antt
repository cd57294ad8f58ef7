use Rattle.machine_values.proofs.Small.{shift_given}
use Rattle.machine_expressions.proofs.numbers.move_bits.Goals as goal

pub returns-clause-given : goal.returns-clause-given
returns-clause-given c = λ sizes. c.judged.ensures.given sizes (shift_given sizes c.args.to_left c.args.x c.args.y c.shift.result c.shift.ensures)
