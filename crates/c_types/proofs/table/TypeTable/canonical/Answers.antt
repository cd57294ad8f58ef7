use Rattle.c_types.proofs.table.TypeTable.canonical.Goals as goal

pub returns : goal.returns
returns c = rw (← c.root.ensures.is) c.root.ensures.root.first
