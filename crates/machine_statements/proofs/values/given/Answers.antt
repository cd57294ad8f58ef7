use Rattle.machine_expressions.proofs.Integers.{same_given}
use Rattle.machine_statements.proofs.values.given.Goals as goal

pub returns-in-AsTruth-clause-given : goal.returns-in-AsTruth-clause-given
returns-in-AsTruth-clause-given g c =
    let sizes = g.M.Memory.sizes c.args.memory.now in
    c.gives.ensures.given sizes (same_given sizes c.truth_value.result _ c.truth_value.ensures tt)
