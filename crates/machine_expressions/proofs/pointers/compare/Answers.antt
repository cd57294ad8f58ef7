use Rattle.machine_expressions.proofs.Integers.{comparison_given}
use Rattle.machine_expressions.proofs.pointers.compare.Goals as goal

pub returns-clause-given : goal.returns-clause-given
returns-clause-given g c =
    let sizes = g.M.Memory.sizes c.args.memory.now in
    c.judged.ensures.given sizes (comparison_given sizes c.args.op (g.M.Memory.blocks c.args.memory.now) c.args.p c.args.q c.compare_ptr.result c.compare_ptr.ensures)
