use Rattle.std.proofs.Common.{◌≡◌, sym, ap}
use Rattle.c_types.specs.Found.{found}
use Rattle.c_types.specs.Table.{Table}
use Rattle.c_types.proofs.Keeping.{fresh_none, fresh_some, none_from, missing}
use Rattle.c_types.proofs.table.TypeTable.find.Goals as goal

pub returns-in-None-clause-fresh : goal.returns-in-None-clause-fresh
returns-in-None-clause-fresh c =
    let terms : c.self.inside.terms.items ≡ c.args.self.now.terms = ap (λ (t : Table). t.terms) c.self.view_is in
    rw (← terms) (fresh_none c.self.inside.terms.items (found c.self.inside.numbers) c.args.wanted.now c.self.invariant.found (sym c.in-None.ensures))

pub returns-in-None-clause-missing : goal.returns-in-None-clause-missing
returns-in-None-clause-missing c =
    let terms : c.self.inside.terms.items ≡ c.args.self.now.terms = ap (λ (t : Table). t.terms) c.self.view_is in
    let i = c.self.invariant in
    rw (← terms) (λ t e. missing c.self.inside.terms.items c.self.inside.shapes.items (found c.self.inside.numbers) t i.ordered i.shapes_long i.shapes i.found
    (fresh_none c.self.inside.terms.items (found c.self.inside.numbers) c.args.wanted.now i.found (sym c.in-None.ensures) t e))

pub returns-in-Some-clause-fresh : goal.returns-in-Some-clause-fresh
returns-in-Some-clause-fresh c =
    let terms : c.self.inside.terms.items ≡ c.args.self.now.terms = ap (λ (t : Table). t.terms) c.self.view_is in
    none_from c.found.result (λ n. rw (← terms) (fresh_some c.self.inside.terms.items (found c.self.inside.numbers) c.args.wanted.now c.in-Some.number c.self.invariant.found (sym c.in-Some.ensures) (rw terms n))) c.found.ensures.none

pub returns-in-Some-clause-missing : goal.returns-in-Some-clause-missing
returns-in-Some-clause-missing c =
    let terms : c.self.inside.terms.items ≡ c.args.self.now.terms = ap (λ (t : Table). t.terms) c.self.view_is in
    let i = c.self.invariant in
    none_from c.found.result (λ n. rw (← terms) (λ t e. missing c.self.inside.terms.items c.self.inside.shapes.items (found c.self.inside.numbers) t i.ordered i.shapes_long i.shapes i.found
    (fresh_some c.self.inside.terms.items (found c.self.inside.numbers) c.args.wanted.now c.in-Some.number i.found (sym c.in-Some.ensures) (rw terms n) t e))) c.found.ensures.none
