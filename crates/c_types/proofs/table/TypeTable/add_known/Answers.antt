use Rattle.std.proofs.Common.{◌≡◌, ◌∙◌, length, ap, sym}
use Rattle.c_types.specs.Canonical.{canonical}
use Rattle.c_types.specs.Table.{Table}
use Rattle.c_types.proofs.Keeping.{at_get, key_term, term_up, parts_weaker, longer_on}
use Rattle.c_types.proofs.table.TypeTable.add_known.Goals as goal

pub returns-in-Some-clause-term : goal.returns-in-Some-clause-term
returns-in-Some-clause-term c =
    let own = c.as_slice.ensures.value ∙ c.in_ok-own.ensures in
    let has = rw (c.in-Some.is, own) at c.in_ok-id.ensures.key in
    let within = rw c.in-Some.is at c.in_ok-id.ensures.within in
    key_term c.args.self.now.terms c.args.term c.in-Some.id.0 within has

pub returns-in-Some-clause-is : goal.returns-in-Some-clause-is
returns-in-Some-clause-is c =
    let e : c.self.inside.terms.items ≡ c.args.self.now.terms = ap (λ (t : Table). t.terms) c.self.view_is in
    let own = c.as_slice.ensures.value ∙ c.in_ok-own.ensures in
    let has = rw (c.in-Some.is, own) at c.in_ok-id.ensures.key in
    let within = rw c.in-Some.is at c.in_ok-id.ensures.within in
    at_get c.args.self.now.terms c.in-Some.id.0 c.args.term (key_term c.args.self.now.terms c.args.term c.in-Some.id.0 within has) (rw e at c.self.invariant.ordered)

pub put_behind-requires-clause-parts : goal.put_behind-requires-clause-parts
put_behind-requires-clause-parts c = parts_weaker (length c.args.self.now.terms) (length c.canonical_of.new.self.terms) c.args.term c.canonical_of.ensures.longer.grows.longer c.requires.parts

pub put_behind-requires-clause-numbers : goal.put_behind-requires-clause-numbers
put_behind-requires-clause-numbers c = rw (c.canonical_of.ensures.longer.records, c.canonical_of.ensures.longer.enums) c.requires.numbers

pub put_behind-requires-clause-fact : goal.put_behind-requires-clause-fact
put_behind-requires-clause-fact c = rw (c.canonical_of.ensures.longer.layouts, term_up c.args.self.now.terms c.canonical_of.new.self.terms c.args.term c.canonical_of.ensures.longer.grows c.requires.parts) c.requires.fact

pub put_behind-requires-clause-canonical : goal.put_behind-requires-clause-canonical
put_behind-requires-clause-canonical c = c.in_ok-root.ensures.is ∙ ap canonical (sym (term_up c.args.self.now.terms c.canonical_of.new.self.terms c.args.term c.canonical_of.ensures.longer.grows c.requires.parts))

pub returns-clause-is : goal.returns-clause-is
returns-clause-is c = c.in_ok-id-2.ensures.is ∙ term_up c.args.self.now.terms c.canonical_of.new.self.terms c.args.term c.canonical_of.ensures.longer.grows c.requires.parts

pub returns-clause-longer : goal.returns-clause-longer
returns-clause-longer c = longer_on c.args.self.now c.canonical_of.new.self c.put_behind.new.self c.canonical_of.ensures.longer c.put_behind.ensures.longer
