use Rattle.machine_expressions.proofs.Integers.{difference_given}
use Rattle.machine_expressions.proofs.pointers.subtract.Goals as goal

pub returns-clause-given : goal.returns-clause-given
returns-clause-given g c =
    let sizes = g.M.Memory.sizes c.args.memory.now in
    c.judged.ensures.given sizes (difference_given sizes (g.M.Memory.blocks c.args.memory.now) c.args.p c.args.q c.args.size c.ptr_diff.result c.ptr_diff.ensures)
