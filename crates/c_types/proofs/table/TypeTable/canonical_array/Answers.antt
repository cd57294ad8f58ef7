use Rattle.c_types.proofs.Qualifying.{size_canonical}
use Rattle.c_types.specs.Table.{type_at}
use Rattle.c_types.proofs.table.TypeTable.canonical_array.Goals as goal

pub returns-in-Err-clause-cause : goal.returns-in-Err-clause-cause
returns-in-Err-clause-cause c = λ _. rw (c.root-root.ensures.is, size_canonical c.args.self.now.layouts (type_at c.args.self.now.terms c.args.element.0)) at c.in-Err.ensures.cause
