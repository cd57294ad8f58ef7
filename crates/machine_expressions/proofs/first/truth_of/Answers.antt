use Rattle.machine_expressions.proofs.Integers.{truth_given}
use Rattle.machine_expressions.proofs.first.truth_of.Goals as goal

pub returns-clause-given : goal.returns-clause-given
returns-clause-given g c =
    let sizes = g.M.Memory.sizes c.args.memory.now in
    c.judged.ensures.given sizes (truth_given sizes (g.M.Memory.blocks c.args.memory.now) c.args.value c.args.negated c.truth.result c.truth.ensures)
