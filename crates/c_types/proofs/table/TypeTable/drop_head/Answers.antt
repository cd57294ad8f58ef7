use Rattle.std.proofs.Common.{◌≡◌, ◌+◌, suc, Some, None, slice_get, take, length, arith, ap}
use Rattle.std.proofs.lemmas.List.{length-take}
use Rattle.c_types.specs.Table.{Table}
use Rattle.c_types.proofs.Keeping.{cut_long}
use Rattle.c_types.proofs.Shaping.{extends_less, members_take, small_take}
use Rattle.c_types.proofs.Sounding.{facts_on}
use Rattle.c_types.proofs.table.TypeTable.drop_head.Goals as goal

pub invariant_of-self : goal.invariant_of-self
invariant_of-self c =
    let i = c.self.invariant in
    let n = c.args.count in
    let terms : c.self.inside.terms.items ≡ c.args.self.now.terms = ap (λ (t : Table). t.terms) c.self.view_is in
    let records : c.self.inside.records.items ≡ c.args.self.now.records = ap (λ (t : Table). t.records) c.self.view_is in
    let layouts : c.self.inside.layouts.items ≡ c.args.self.now.layouts = ap (λ (t : Table). t.layouts) c.self.view_is in
    let enums : c.self.inside.enums.items ≡ c.args.self.now.enums = ap (λ (t : Table). t.enums) c.self.view_is in
    let long : length c.self.inside.records.items ≡ n + 1 = rw records c.requires.records in
    let short : length (take n c.self.inside.records.items) ≡ n = omega (arith, length-take n c.self.inside.records.items, long) in
    let last : slice_get c.self.inside.layouts.items n ≡ Some None = rw layouts c.requires.open in
    let tall : length c.self.inside.layouts.items ≡ suc n = let l = i.layouts_long in omega (arith, l, long) in
    let less = extends_less c.self.inside.layouts.items n tall last in
    rw (c.truncate.ensures.items, c.truncate-2.ensures.items, c.truncate-3.ensures.items) (record {
      ordered = i.ordered;
      numbered = rw (short, terms, enums) c.requires.numbered;
      as_long = i.as_long;
      shapes_long = i.shapes_long;
      layouts_long = cut_long n c.self.inside.layouts.items c.self.inside.records.items i.layouts_long;
      members_long = cut_long n c.self.inside.members.items c.self.inside.records.items i.members_long;
      members_below = members_take (length c.self.inside.terms.items) n c.self.inside.members.items i.members_below;
      small = small_take n c.self.inside.layouts.items i.small;
      facts = facts_on c.self.inside.layouts.items (take n c.self.inside.layouts.items) c.self.inside.terms.items c.self.inside.facts.items less i.facts;
      shapes = i.shapes;
      found = i.found;
    })
