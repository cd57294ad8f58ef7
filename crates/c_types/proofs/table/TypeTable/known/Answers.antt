use Rattle.std.proofs.Common.{◌≡◌, ◌∙◌, ap}
use Rattle.c_types.specs.Canonical.{canonical, qualify}
use Rattle.c_types.specs.Keys.{key}
use Rattle.c_types.specs.Table.{Table}
use Rattle.c_types.specs.declared.terms.Term.{Term}
use Rattle.c_types.specs.declared.terms.Term.TheVariants as m
use Rattle.c_types.proofs.Keeping.{at_get, key_term}
use Rattle.c_types.proofs.table.TypeTable.known.Goals as goal

pub returns-clause-is : goal.returns-clause-is
returns-clause-is c =
    let e : c.self.inside.terms.items ≡ c.args.self.now.terms = ap (λ (t : Table). t.terms) c.self.view_is in
    let t : Term = m.Qualified c.args.qualifiers c.args.root in
    let own : c.as_slice.result.now ≡ key t = c.as_slice.ensures.value ∙ c.in_ok-own.ensures in
    let has = rw (c.in-Some.is, own) at c.in_ok-found.ensures.key in
    let within = rw c.in-Some.is at c.in_ok-found.ensures.within in
    c.root.ensures.is ∙ ap canonical (at_get c.args.self.now.terms c.in-Some.id.0 t (key_term c.args.self.now.terms t c.in-Some.id.0 within has) (rw e at c.self.invariant.ordered)) ∙ ap (qualify c.args.qualifiers) c.requires.fixed
