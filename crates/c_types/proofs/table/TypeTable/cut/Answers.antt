use Rattle.std.proofs.Common.{◌≡◌, length, ap}
use Rattle.c_types.specs.Found.{found}
use Rattle.c_types.specs.Table.{Table, AllMembersBelow}
use Rattle.c_types.proofs.Keeping.{cut_ordered, cut_long, cut_facts, cut_found}
use Rattle.c_types.proofs.Shaping.{cut_shapes, numbered_take, members_cut}
use Rattle.c_types.proofs.table.TypeTable.cut.Goals as goal

pub invariant_of-self : goal.invariant_of-self
invariant_of-self c =
    let i = c.self.invariant in
    let n = c.args.count in
    let terms = c.self.inside.terms.items in
    let members : c.self.inside.members.items ≡ c.args.self.now.members = ap (λ (t : Table). t.members) c.self.view_is in
    rw (c.truncate.ensures.items, c.truncate-2.ensures.items, c.truncate-3.ensures.items) (record {
      ordered = cut_ordered n terms i.ordered;
      numbered = numbered_take (length c.self.inside.records.items) (length c.self.inside.enums.items) n terms i.numbered;
      as_long = cut_long n c.self.inside.facts.items terms i.as_long;
      shapes_long = cut_long n c.self.inside.shapes.items terms i.shapes_long;
      layouts_long = i.layouts_long;
      members_long = i.members_long;
      members_below = members_cut n terms c.self.inside.members.items i.members_below (rw members c.requires);
      small = i.small;
      facts = cut_facts c.self.inside.layouts.items n terms c.self.inside.facts.items i.as_long i.facts;
      shapes = cut_shapes n terms c.self.inside.shapes.items i.shapes_long i.shapes;
      found = cut_found n terms (found c.self.inside.numbers) i.ordered i.found;
    })
