use Rattle.std.proofs.Common.{◌≡◌, slice_get, Some, sym, ap, ◌∙◌}
use Rattle.c_types.specs.Table.{Table, term_type}
use Rattle.c_types.proofs.Growing.{at_term, parts_term}
use Rattle.c_types.proofs.Keeping.{present}
use Rattle.c_types.proofs.table.TypeTable.term.Goals as goal

pub returns-clause-type_is : goal.returns-clause-type_is
returns-clause-type_is c =
    let e : c.self.inside.terms.items ≡ c.args.self.now.terms = ap (λ (t : Table). t.terms) c.self.view_is in
    let got = rw (c.as_slice.ensures, e) at c.index-as_slice-id.is in
    let o = rw e at c.self.invariant.ordered in
    at_term c.args.self.now.terms c.args.id.0 c.index-as_slice-id.result c.requires o ∙ ap (term_type c.args.self.now.terms) (sym got)

pub returns-clause-parts : goal.returns-clause-parts
returns-clause-parts c =
    let e : c.self.inside.terms.items ≡ c.args.self.now.terms = ap (λ (t : Table). t.terms) c.self.view_is in
    let got = rw (c.as_slice.ensures, e) at c.index-as_slice-id.is in
    let o = rw e at c.self.invariant.ordered in
    rw got (parts_term c.args.self.now.terms c.args.id.0 c.index-as_slice-id.result c.requires o)

pub returns-clause-numbers : goal.returns-clause-numbers
returns-clause-numbers c =
    let e : c.self.inside.terms.items ≡ c.args.self.now.terms = ap (λ (t : Table). t.terms) c.self.view_is in
    let records : c.self.inside.records.items ≡ c.args.self.now.records = ap (λ (t : Table). t.records) c.self.view_is in
    let enums : c.self.inside.enums.items ≡ c.args.self.now.enums = ap (λ (t : Table). t.enums) c.self.view_is in
    let got = rw (c.as_slice.ensures, e) at c.index-as_slice-id.is in
    let all = rw (e, records, enums) at c.self.invariant.numbered in
    let at : slice_get c.args.self.now.terms c.args.id.0 ≡ Some c.index-as_slice-id.result = present c.args.self.now.terms c.args.id.0 c.index-as_slice-id.result c.requires ∙ ap Some (sym got) in
    all c.args.id.0 c.index-as_slice-id.result at
