use Rattle.machine_expressions.proofs.pointers.add.Goals as goal

pub returns-clause-given : goal.returns-clause-given
returns-clause-given g c = c.judged.ensures.given (g.M.Memory.sizes c.args.memory.now) c.ptr_add.ensures.given
