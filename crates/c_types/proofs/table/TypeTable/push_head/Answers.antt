use Rattle.std.proofs.Common.{◌≡◌, ◌≤◌, ◌++◌, ◌∷◌, [], None, length, arith, length-append}
use Rattle.c_types.specs.Facts.{Extends}
use Rattle.c_types.proofs.Shaping.{numbered_weaker, members_push, small_push}
use Rattle.c_types.proofs.Sounding.{length_one, facts_on, extends_more}
use Rattle.c_types.proofs.table.TypeTable.push_head.Goals as goal

pub invariant_of-self-2 : goal.invariant_of-self-2
invariant_of-self-2 c =
    let i = c.self.invariant in
    let e = c.in_ok-push_open.ensures in
    let r = length c.self.inside.records.items in
    let n = length c.self.inside.enums.items in
    let longer : Extends c.self.inside.layouts.items c.push_open.new.layouts.items = rw e.layouts (extends_more c.self.inside.layouts.items None) in
    let more : r ≤ length (c.self.inside.records.items ++ c.args.head ∷ []) = omega (arith, length-append c.self.inside.records.items (c.args.head ∷ [])) in
    let none : c.none-none.result ≡ [] = c.none-none.ensures in
    record {
      ordered = i.ordered;
      numbered = rw e.records (numbered_weaker r n (length (c.self.inside.records.items ++ c.args.head ∷ [])) n c.self.inside.terms.items more (omega arith) i.numbered);
      as_long = i.as_long;
      shapes_long = i.shapes_long;
      layouts_long = length_one _ _ _ _ _ _ i.layouts_long e.records e.layouts;
      members_long = length_one _ _ _ _ _ _ i.members_long e.records e.members;
      members_below = rw (e.members, none) (members_push (length c.self.inside.terms.items) c.self.inside.members.items i.members_below);
      small = rw e.layouts (small_push c.self.inside.layouts.items i.small);
      facts = facts_on _ _ _ _ longer i.facts;
      shapes = i.shapes;
      found = i.found;
    }

pub invariant_of-self : goal.invariant_of-self
invariant_of-self c =
    let i = c.self.invariant in
    let e = c.in_err-push_open.ensures in
    rw (e.records_stay, e.layouts_stay, e.members_stay) (record {
      ordered = i.ordered;
      numbered = i.numbered;
      as_long = i.as_long;
      shapes_long = i.shapes_long;
      layouts_long = i.layouts_long;
      members_long = i.members_long;
      members_below = i.members_below;
      small = i.small;
      facts = i.facts;
      shapes = i.shapes;
      found = i.found;
    })
