use Rattle.std.proofs.Common.{◌≡◌, ◌++◌, ◌∷◌, [], length, arith, length-append}
use Rattle.c_types.proofs.Shaping.{numbered_weaker}
use Rattle.c_types.proofs.table.TypeTable.push_name.Goals as goal

pub invariant_of-self-2 : goal.invariant_of-self-2
invariant_of-self-2 c =
    let i = c.self.invariant in
    let r = length c.self.inside.records.items in
    let e = length c.self.inside.enums.items in
    rw (c.push.ensures.items, c.reserve.ensures.items) (record {
      ordered = i.ordered;
      numbered = numbered_weaker r e r (length (c.self.inside.enums.items ++ c.args.name ∷ [])) c.self.inside.terms.items (omega arith) (omega (arith, length-append c.self.inside.enums.items (c.args.name ∷ []))) i.numbered;
      as_long = i.as_long;
      shapes_long = i.shapes_long;
      layouts_long = i.layouts_long;
      members_long = i.members_long;
      members_below = i.members_below;
      small = i.small;
      facts = i.facts;
      shapes = i.shapes;
      found = i.found;
    })
