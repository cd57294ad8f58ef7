use Rattle.std.proofs.Common.{◌≡◌, Some, length, ap, sym, ◌∙◌}
use Rattle.c_types.specs.CTypes.{record_of}
use Rattle.c_types.specs.Table.{Table, type_at}
use Rattle.c_types.proofs.Sounding.{finished_within}
use Rattle.c_types.proofs.table.TypeTable.finished_number.Goals as goal

pub returns-clause-within : goal.returns-clause-within
returns-clause-within c =
    let layouts : c.self.inside.layouts.items ≡ c.args.self.now.layouts = ap (λ (t : Table). t.layouts) c.self.view_is in
    let members : c.self.inside.members.items ≡ c.args.self.now.members = ap (λ (t : Table). t.members) c.self.view_is in
    let is : record_of (type_at c.args.self.now.terms c.args.id.0) ≡ Some c.in-Some.number = sym c.fact-fact.ensures.record_is ∙ c.in-Some.is in
    finished_within c.args.self.now.layouts (record_of (type_at c.args.self.now.terms c.args.id.0)) c.in-Some.number (length c.args.self.now.members) c.requires.finished is
    (sym (ap length members) ∙ c.self.invariant.members_long ∙ sym c.self.invariant.layouts_long ∙ ap length layouts)
