use Rattle.std.proofs.Common.{arith}
use Rattle.block_memory.proofs.Numbers.{limit}
use Rattle.block_memory.proofs.scalar.joined.Goals as goal

pub overflow_mul-result : goal.overflow_mul-result
overflow_mul-result c =
    let l = limit c.args.count c.args.rest c.args.byte c.requires.count c.requires.rest (omega arith) in
    omega (arith, l.1)

pub overflow_add-result : goal.overflow_add-result
overflow_add-result c =
    let l = limit c.args.count c.args.rest c.args.byte c.requires.count c.requires.rest (omega arith) in
    omega (arith, l.1)

pub returns-clause-bound : goal.returns-clause-bound
returns-clause-bound c = (limit c.args.count c.args.rest c.args.byte c.requires.count c.requires.rest (omega arith)).0
