use Rattle.std.proofs.Common.{◌≡◌, ◌++◌, ◌∷◌, [], length, ap, sym, ◌∙◌}
use Rattle.c_types.specs.Found.{found}
use Rattle.c_types.specs.Keys.{key}
use Rattle.c_types.specs.Roots.{IsCanonical}
use Rattle.c_types.specs.Table.{Table}
use Rattle.c_types.proofs.Keeping.{root_term_below, new_root, found_root, pushed_term, pushed_is, pushed_root, pushed_longer}
use Rattle.c_types.proofs.table.TypeTable.put_root.Goals as goal

pub push-requires-clause-parts : goal.push-requires-clause-parts
push-requires-clause-parts c = root_term_below c.args.self.now.terms c.args.term c.requires.roots

pub root_shape-shape-requires-clause-new : goal.root_shape-shape-requires-clause-new
root_shape-shape-requires-clause-new c =
    let none = rw c.in-None.is at c.in_ok-found.ensures.missing in
    let own : key c.args.term ≡ c.as_slice.result.now = sym (c.as_slice.ensures.value ∙ c.in_ok-own.ensures) in
    new_root c.args.self.now.terms c.args.term c.requires.roots (none c.args.term own c.requires.roots)

pub returns-in-Some-clause-term : goal.returns-in-Some-clause-term
returns-in-Some-clause-term c =
    let e : c.self.inside.terms.items ≡ c.args.self.now.terms = ap (λ (t : Table). t.terms) c.self.view_is in
    let own : c.as_slice.result.now ≡ key c.args.term = c.as_slice.ensures.value ∙ c.in_ok-own.ensures in
    let has = rw (c.in-Some.is, own) at c.in_ok-found.ensures.key in
    let within = rw c.in-Some.is at c.in_ok-found.ensures.within in
    (found_root c.args.self.now.terms (found c.self.inside.numbers) c.args.term c.in-Some.id.0 c.root.result.0 (rw e at c.self.invariant.ordered) (rw e at c.self.invariant.found) c.requires.roots within has c.root.ensures).0

pub returns-in-Some-clause-is : goal.returns-in-Some-clause-is
returns-in-Some-clause-is c =
    let e : c.self.inside.terms.items ≡ c.args.self.now.terms = ap (λ (t : Table). t.terms) c.self.view_is in
    let own : c.as_slice.result.now ≡ key c.args.term = c.as_slice.ensures.value ∙ c.in_ok-own.ensures in
    let has = rw (c.in-Some.is, own) at c.in_ok-found.ensures.key in
    let within = rw c.in-Some.is at c.in_ok-found.ensures.within in
    (found_root c.args.self.now.terms (found c.self.inside.numbers) c.args.term c.in-Some.id.0 c.root.result.0 (rw e at c.self.invariant.ordered) (rw e at c.self.invariant.found) c.requires.roots within has c.root.ensures).1

pub returns-in-None-clause-term : goal.returns-in-None-clause-term
returns-in-None-clause-term c = pushed_term c.args.self.now c.push.new.self c.args.term c.push.result c.push.ensures.ok c.push.ensures.terms

pub returns-in-None-clause-is : goal.returns-in-None-clause-is
returns-in-None-clause-is c = pushed_is c.args.self.now c.push.new.self c.args.term c.push.result c.push.ensures.ok c.push.ensures.terms

pub returns-in-None-clause-root : goal.returns-in-None-clause-root
returns-in-None-clause-root c =
    let none = rw c.in-None.is at c.in_ok-found.ensures.missing in
    let own : key c.args.term ≡ c.as_slice.result.now = sym (c.as_slice.ensures.value ∙ c.in_ok-own.ensures) in
    let new : IsCanonical (c.args.self.now.terms ++ c.args.term ∷ []) (length c.args.self.now.terms) (length c.args.self.now.terms) = new_root c.args.self.now.terms c.args.term c.requires.roots (none c.args.term own c.requires.roots) in
    pushed_root c.args.self.now c.push.new.self c.args.term c.push.result new.root c.push.ensures.ok c.push.ensures.terms

pub returns-in-None-clause-longer : goal.returns-in-None-clause-longer
returns-in-None-clause-longer c = pushed_longer c.args.self.now c.push.new.self c.args.term c.push.result c.push.ensures.terms c.push.ensures.err
