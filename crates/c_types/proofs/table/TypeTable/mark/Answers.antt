use Rattle.std.proofs.Common.{◌≡◌, ap}
use Rattle.c_types.specs.Table.{Table}
use Rattle.c_types.proofs.table.TypeTable.mark.Goals as goal

pub returns-clause-members : goal.returns-clause-members
returns-clause-members c =
    let terms : c.self.inside.terms.items ≡ c.args.self.now.terms = ap (λ (t : Table). t.terms) c.self.view_is in
    let members : c.self.inside.members.items ≡ c.args.self.now.members = ap (λ (t : Table). t.members) c.self.view_is in
    rw (terms, members) at c.self.invariant.members_below
