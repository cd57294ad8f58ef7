use Rattle.std.proofs.Common.{◌≡◌, ◌+◌, take, length, arith, ap}
use Rattle.std.proofs.lemmas.List.{length-take}
use Rattle.c_types.specs.Table.{Table}
use Rattle.c_types.proofs.table.TypeTable.drop_name.Goals as goal

pub invariant_of-self : goal.invariant_of-self
invariant_of-self c =
    let i = c.self.invariant in
    let n = c.args.count in
    let terms : c.self.inside.terms.items ≡ c.args.self.now.terms = ap (λ (t : Table). t.terms) c.self.view_is in
    let records : c.self.inside.records.items ≡ c.args.self.now.records = ap (λ (t : Table). t.records) c.self.view_is in
    let enums : c.self.inside.enums.items ≡ c.args.self.now.enums = ap (λ (t : Table). t.enums) c.self.view_is in
    let long : length c.self.inside.enums.items ≡ n + 1 = rw enums c.requires.enums in
    let short : length (take n c.self.inside.enums.items) ≡ n = omega (arith, length-take n c.self.inside.enums.items, long) in
    rw c.truncate.ensures.items (record {
      ordered = i.ordered;
      numbered = rw (short, terms, records) c.requires.numbered;
      as_long = i.as_long;
      shapes_long = i.shapes_long;
      layouts_long = i.layouts_long;
      members_long = i.members_long;
      members_below = i.members_below;
      small = i.small;
      facts = i.facts;
      shapes = i.shapes;
      found = i.found;
    })
