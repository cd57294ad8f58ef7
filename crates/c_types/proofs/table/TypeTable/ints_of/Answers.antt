use Rattle.std.proofs.Common.{ap}
use Rattle.c_types.specs.CTypes as t
use Rattle.c_types.specs.CTypes.{CType}
use Rattle.c_types.specs.Table.{type_at}
use Rattle.c_types.proofs.Comparing.{fact_ints}
use Rattle.c_types.proofs.table.TypeTable.ints_of.Goals as goal

pub other-requires-in-Array-clause-fact : goal.other-requires-in-Array-clause-fact
other-requires-in-Array-clause-fact c =
    let ts = c.args.self.now.terms in
    let n = c.in-Array.count in
    fact_ints c.args.self.now.layouts (t.Array (type_at ts c.in-Array.element.0) n) (t.Array (type_at ts c.ints_at-ints-in-Array.result.0) n) c.args.fact (ap (λ (x : CType). t.Array x n) c.ints_at-ints-in-Array.ensures.is) (rw c.in-Array.is at c.requires.fact)

pub other-requires-in-Flexible-clause-fact : goal.other-requires-in-Flexible-clause-fact
other-requires-in-Flexible-clause-fact c =
    let ts = c.args.self.now.terms in
    fact_ints c.args.self.now.layouts (t.Flexible (type_at ts c.in-Flexible.element.0)) (t.Flexible (type_at ts c.ints_at-ints-in-Flexible.result.0)) c.args.fact (ap t.Flexible c.ints_at-ints-in-Flexible.ensures.is) (rw c.in-Flexible.is at c.requires.fact)
