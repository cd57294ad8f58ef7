use Rattle.c_types.specs.Canonical.{canonical}
use Rattle.c_types.specs.Compatible.{with_ints}
use Rattle.c_types.specs.Table.{type_at}
use Rattle.c_types.proofs.Comparing.{roots_equal}
use Rattle.c_types.proofs.table.TypeTable.compatible.Goals as goal

pub returns : goal.returns
returns c =
    roots_equal c.args.self.now.terms (with_ints (canonical (type_at c.args.self.now.terms c.args.a.0))) (with_ints (canonical (type_at c.args.self.now.terms c.args.b.0))) c.ints-first.result.0 c.ints-second.result.0
    c.ints-first.ensures.root c.ints-second.ensures.root c.ints-first.ensures.is c.ints-second.ensures.is
