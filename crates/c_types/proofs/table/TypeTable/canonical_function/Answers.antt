use Rattle.c_types.proofs.table.TypeTable.canonical_function.Goals as goal

pub made-requires-clause-fact : goal.made-requires-clause-fact
made-requires-clause-fact c = c.without_size.ensures.function c.args.self.now.layouts _ _
