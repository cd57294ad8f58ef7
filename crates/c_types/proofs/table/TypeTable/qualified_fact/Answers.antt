use Rattle.c_types.specs.Table.{type_at}
use Rattle.c_types.proofs.table.TypeTable.qualified_fact.Goals as goal

pub returns : goal.returns
returns c = c.with_const.ensures c.args.self.now.layouts (type_at c.args.self.now.terms c.args.inner.0) c.fact.ensures
