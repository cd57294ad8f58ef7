use Rattle.c_types.specs.Canonical.{canonical}
use Rattle.c_types.specs.Table.{type_at}
use Rattle.c_types.proofs.Comparing.{firsts_equal}
use Rattle.c_types.proofs.table.TypeTable.same.Goals as goal

pub returns-clause-is : goal.returns-clause-is
returns-clause-is c =
    firsts_equal c.args.self.now.terms (canonical (type_at c.args.self.now.terms c.args.a.0)) (canonical (type_at c.args.self.now.terms c.args.b.0)) c.canonical-first.result.0 c.canonical-second.result.0 c.canonical-first.ensures c.canonical-second.ensures
