use Rattle.std.proofs.Common.{◌≡◌, ◌∙◌, ap, sym}
use Rattle.c_types.specs.Keys.{key}
use Rattle.c_types.specs.Table.{Table}
use Rattle.c_types.proofs.Keeping.{at_get, key_term, no_root, pushed_term, pushed_is, pushed_longer}
use Rattle.c_types.proofs.table.TypeTable.put_behind.Goals as goal

pub returns-in-Some-clause-term : goal.returns-in-Some-clause-term
returns-in-Some-clause-term c =
    let own = c.as_slice.ensures.value ∙ c.requires.key in
    let has = rw (c.in-Some.is, own) at c.in_ok-id.ensures.key in
    let within = rw c.in-Some.is at c.in_ok-id.ensures.within in
    key_term c.args.self.now.terms c.args.term c.in-Some.id.0 within has

pub returns-in-Some-clause-is : goal.returns-in-Some-clause-is
returns-in-Some-clause-is c =
    let e : c.self.inside.terms.items ≡ c.args.self.now.terms = ap (λ (t : Table). t.terms) c.self.view_is in
    let own = c.as_slice.ensures.value ∙ c.requires.key in
    let has = rw (c.in-Some.is, own) at c.in_ok-id.ensures.key in
    let within = rw c.in-Some.is at c.in_ok-id.ensures.within in
    at_get c.args.self.now.terms c.in-Some.id.0 c.args.term (key_term c.args.self.now.terms c.args.term c.in-Some.id.0 within has) (rw e at c.self.invariant.ordered)

pub push-requires-clause-root : goal.push-requires-clause-root
push-requires-clause-root c = λ x. absurd (no_root c.args.self.now.terms c.args.term c.args.root.0 c.requires.root c.requires.canonical x)

pub returns-clause-term : goal.returns-clause-term
returns-clause-term c = pushed_term c.args.self.now c.push.new.self c.args.term c.push.result c.push.ensures.ok c.push.ensures.terms

pub returns-clause-is : goal.returns-clause-is
returns-clause-is c = pushed_is c.args.self.now c.push.new.self c.args.term c.push.result c.push.ensures.ok c.push.ensures.terms

pub returns-clause-longer : goal.returns-clause-longer
returns-clause-longer c = pushed_longer c.args.self.now c.push.new.self c.args.term c.push.result c.push.ensures.terms c.push.ensures.err
