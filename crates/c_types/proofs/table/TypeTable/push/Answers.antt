use Rattle.std.proofs.Common.{◌≡◌, ap, length, arith, ◌≤◌, ◌++◌, ◌∷◌, [], length-append}
use Rattle.c_types.specs.Found.{found}
use Rattle.c_types.specs.Roots.{IsFresh, IsRoot, IsRootTerm}
use Rattle.c_types.specs.Shapes.{IsShape, AreShapes}
use Rattle.c_types.specs.Table.{Table, PartsBelow, NumbersBelow, term_type}
use Rattle.c_types.specs.Facts.{IsFact}
use Rattle.c_types.proofs.Keeping.{found_push, found_same}
use Rattle.c_types.proofs.Shaping.{shapes_push, numbered_push, members_weaker}
use Rattle.c_types.proofs.Sounding.{sound_more, length_one}
use Rattle.c_types.proofs.table.TypeTable.push.Goals as goal

pub invariant_of-self : goal.invariant_of-self
invariant_of-self c =
    let i = c.self.invariant in
    let e = c.in_err-push_all.ensures in
    rw (e.terms_stay, e.facts_stay, e.shapes_stay) (record {
      ordered = i.ordered;
      numbered = i.numbered;
      as_long = i.as_long;
      shapes_long = i.shapes_long;
      layouts_long = i.layouts_long;
      members_long = i.members_long;
      members_below = i.members_below;
      small = i.small;
      facts = i.facts;
      shapes = i.shapes;
      found = found_same c.self.inside.terms.items (found c.self.inside.numbers) (found c.push_all.new.numbers) i.found e.numbers_stay;
    })

pub invariant_of-self-2 : goal.invariant_of-self-2
invariant_of-self-2 c =
    let i = c.self.invariant in
    let terms : c.self.inside.terms.items ≡ c.args.self.now.terms = ap (λ (t : Table). t.terms) c.self.view_is in
    let layouts : c.self.inside.layouts.items ≡ c.args.self.now.layouts = ap (λ (t : Table). t.layouts) c.self.view_is in
    let records : c.self.inside.records.items ≡ c.args.self.now.records = ap (λ (t : Table). t.records) c.self.view_is in
    let enums : c.self.inside.enums.items ≡ c.args.self.now.enums = ap (λ (t : Table). t.enums) c.self.view_is in
    let parts : PartsBelow (length c.self.inside.terms.items) c.args.term = rw terms c.requires.parts in
    let numbers : NumbersBelow (length c.self.inside.records.items) (length c.self.inside.enums.items) c.args.term = rw (records, enums) c.requires.numbers in
    let fact : IsFact c.self.inside.layouts.items (term_type c.self.inside.terms.items c.args.term) c.args.fact = rw (terms, layouts) c.requires.fact in
    let new : IsShape (c.self.inside.terms.items ++ c.args.term ∷ []) (length c.self.inside.terms.items) c.args.shape = rw terms c.requires.shape in
    let fresh : IsFresh c.self.inside.terms.items c.args.term = rw terms c.requires.fresh in
    let root : IsRoot (c.self.inside.terms.items ++ c.args.term ∷ []) (length c.self.inside.terms.items) → IsRootTerm c.self.inside.terms.items c.args.term = rw terms c.requires.root in
    let more = sound_more c.self.inside.layouts.items _ _ _ _ c.args.term c.args.fact i.ordered i.as_long i.facts parts fact c.in_ok-push_all.ensures.terms c.in_ok-push_all.ensures.facts in
    let shapes : AreShapes (c.self.inside.terms.items ++ c.args.term ∷ []) (c.self.inside.shapes.items ++ c.args.shape ∷ []) = shapes_push c.self.inside.terms.items c.self.inside.shapes.items c.args.term c.args.shape i.shapes_long i.shapes new in
    let founds = found_push c.self.inside.terms.items (found c.self.inside.numbers) (found c.push_all.new.numbers) c.args.term i.found (rw c.requires.key at c.in_ok-push_all.ensures.here) (rw c.requires.key at c.in_ok-push_all.ensures.others) fresh root in
    let long : length c.self.inside.terms.items ≤ length (c.self.inside.terms.items ++ c.args.term ∷ []) = omega (arith, length-append c.self.inside.terms.items (c.args.term ∷ [])) in
    record {
      ordered = more.0;
      numbered = rw c.in_ok-push_all.ensures.terms (numbered_push (length c.self.inside.records.items) (length c.self.inside.enums.items) c.self.inside.terms.items c.args.term i.numbered numbers);
      as_long = more.1;
      shapes_long = length_one _ _ _ _ _ _ i.shapes_long c.in_ok-push_all.ensures.terms c.in_ok-push_all.ensures.shapes;
      layouts_long = i.layouts_long;
      members_long = i.members_long;
      members_below = rw c.in_ok-push_all.ensures.terms (members_weaker (length c.self.inside.terms.items) (length (c.self.inside.terms.items ++ c.args.term ∷ [])) c.self.inside.members.items long i.members_below);
      small = i.small;
      facts = more.2;
      shapes = rw (c.in_ok-push_all.ensures.terms, c.in_ok-push_all.ensures.shapes) shapes;
      found = rw c.in_ok-push_all.ensures.terms founds;
    }
