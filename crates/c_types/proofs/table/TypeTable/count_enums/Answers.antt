use Rattle.std.proofs.Common.{◌≡◌, ap}
use Rattle.c_types.specs.Table.{Table}
use Rattle.c_types.proofs.table.TypeTable.count_enums.Goals as goal

pub returns-clause-numbered : goal.returns-clause-numbered
returns-clause-numbered c =
    let terms : c.self.inside.terms.items ≡ c.args.self.now.terms = ap (λ (t : Table). t.terms) c.self.view_is in
    let records : c.self.inside.records.items ≡ c.args.self.now.records = ap (λ (t : Table). t.records) c.self.view_is in
    let enums : c.self.inside.enums.items ≡ c.args.self.now.enums = ap (λ (t : Table). t.enums) c.self.view_is in
    rw (terms, records, enums) at c.self.invariant.numbered
