use Rattle.std.proofs.Common.{◌≡◌, ◌<◌, None, false, length, arith, ap, get_or}
use Rattle.c_types.specs.Table.{Table}
use Rattle.c_types.specs.declared.facts.Facts.{Facts}
use Rattle.c_types.proofs.Keeping.{present}
use Rattle.c_types.proofs.table.TypeTable.fact.Goals as goal

pub returns : goal.returns
returns c =
    let terms : c.self.inside.terms.items ≡ c.args.self.now.terms = ap (λ (t : Table). t.terms) c.self.view_is in
    let layouts : c.self.inside.layouts.items ≡ c.args.self.now.layouts = ap (λ (t : Table). t.layouts) c.self.view_is in
    let d : Facts = record { record_number = None; size = None; align = None; has_pointer = false; is_flexible = false; is_const = false; held = None } in
    let below : c.args.id.0 < length c.self.inside.facts.items = let e = ap length terms in omega (arith, c.requires, c.self.invariant.as_long, e) in
    rw (c.as_slice.ensures, ← terms, ← layouts) (c.self.invariant.facts c.args.id.0 (get_or c.self.inside.facts.items c.args.id.0 d) (present c.self.inside.facts.items c.args.id.0 d below))
