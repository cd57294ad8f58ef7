use Rattle.std.proofs.Common.{◌≡◌, ap}
use Rattle.c_types.specs.Table.{Table}
use Rattle.c_types.proofs.Knowing.{small_by}
use Rattle.c_types.proofs.table.TypeTable.size_of.Goals as goal

pub returns-clause-small : goal.returns-clause-small
returns-clause-small c =
    let layouts : c.self.inside.layouts.items ≡ c.args.self.now.layouts = ap (λ (t : Table). t.layouts) c.self.view_is in
    rw c.known_size.ensures (small_by c.args.self.now.layouts c.fact-fact.result.record_number c.fact-fact.result.size c.fact-fact.ensures.small (rw layouts at c.self.invariant.small))
