use Rattle.std.proofs.Common.{◌≡◌, Some, None, length, ap, ◌∙◌, slice_get, sym, arith}
use Rattle.c_types.specs.Table.{Table, type_at}
use Rattle.c_types.specs.Facts.{Extends}
use Rattle.c_types.proofs.Sounding.{length_set, facts_on, extends_set, open_is, within}
use Rattle.c_types.proofs.Shaping.{small_set, members_set}
use Rattle.c_types.proofs.table.TypeTable.finish_record.Goals as goal

pub set-requires : goal.set-requires
set-requires c =
    let layouts : c.self.inside.layouts.items ≡ c.args.self.now.layouts = ap (λ (t : Table). t.layouts) c.self.view_is in
    let still : slice_get c.self.inside.layouts.items c.record_number-number.result ≡ Some None = rw (layouts, c.record_number-number.ensures) (open_is c.args.self.now.layouts (type_at c.args.self.now.terms c.args.id.0) c.requires.unfinished) in
    within c.self.inside.layouts.items c.record_number-number.result None still

pub invariant_of-self : goal.invariant_of-self
invariant_of-self c =
    let i = c.self.invariant in
    let layouts : c.self.inside.layouts.items ≡ c.args.self.now.layouts = ap (λ (t : Table). t.layouts) c.self.view_is in
    let terms : c.self.inside.terms.items ≡ c.args.self.now.terms = ap (λ (t : Table). t.terms) c.self.view_is in
    let still : slice_get c.self.inside.layouts.items c.record_number-number.result ≡ Some None = rw (layouts, c.record_number-number.ensures) (open_is c.args.self.now.layouts (type_at c.args.self.now.terms c.args.id.0) c.requires.unfinished) in
    let longer : Extends c.self.inside.layouts.items c.set.new.self.items = rw c.set.ensures.items (extends_set c.self.inside.layouts.items c.record_number-number.result _ still) in
    record {
      ordered = i.ordered;
      numbered = i.numbered;
      as_long = i.as_long;
      layouts_long = ap length c.set.ensures.items ∙ length_set c.self.inside.layouts.items c.record_number-number.result _ ∙ i.layouts_long;
      members_long = ap length c.set-2.ensures.items ∙ length_set c.self.inside.members.items c.record_number-number.result _ ∙ i.members_long;
      members_below = rw c.set-2.ensures.items (members_set (length c.self.inside.terms.items) c.record_number-number.result c.self.inside.members.items _ i.members_below (rw (c.in_ok-members.ensures, terms) c.requires.below));
      small = rw c.set.ensures.items (small_set c.self.inside.layouts.items c.record_number-number.result _ i.small c.in_ok-layout.ensures.small);
      shapes_long = i.shapes_long;
      shapes = i.shapes;
      found = i.found;
      facts = facts_on _ _ _ _ longer i.facts;
    }
