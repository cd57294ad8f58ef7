use Rattle.std.proofs.Common.{◌∙◌, ap}
use Rattle.c_types.specs.Canonical.{canonical, unqualified}
use Rattle.c_types.specs.Compatible.{with_ints}
use Rattle.c_types.specs.Table.{type_at}
use Rattle.c_types.proofs.Comparing.{roots_equal, ints_unqualified}
use Rattle.c_types.proofs.table.TypeTable.alike.Goals as goal

pub returns : goal.returns
returns c =
    let a = canonical (type_at c.args.self.now.terms c.args.a.0) in
    let b = canonical (type_at c.args.self.now.terms c.args.b.0) in
    roots_equal c.args.self.now.terms (with_ints (unqualified a)) (with_ints (unqualified b)) c.unqualified-first.result.0 c.unqualified-second.result.0
    c.unqualified-first.ensures.root c.unqualified-second.ensures.root
    (c.unqualified-first.ensures.is ∙ ap unqualified c.ints-ints_a.ensures.is ∙ ints_unqualified a)
    (c.unqualified-second.ensures.is ∙ ap unqualified c.ints-ints_b.ensures.is ∙ ints_unqualified b)
