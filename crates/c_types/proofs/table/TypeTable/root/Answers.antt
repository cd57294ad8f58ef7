use Rattle.c_types.proofs.table.TypeTable.root.Goals as goal

pub returns : goal.returns
returns c = c.shape.ensures.root
