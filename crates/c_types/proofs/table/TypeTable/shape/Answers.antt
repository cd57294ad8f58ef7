use Rattle.std.proofs.Common.{◌≡◌, ◌<◌, false, length, arith, ap, get_or}
use Rattle.c_types.specs.Table.{Table}
use Rattle.c_types.specs.declared.facts.Shape.{Shape}
use Rattle.c_types.specs.declared.terms.TypeId.{TypeId}
use Rattle.c_types.proofs.Keeping.{present}
use Rattle.c_types.proofs.table.TypeTable.shape.Goals as goal

pub returns : goal.returns
returns c =
    let terms : c.self.inside.terms.items ≡ c.args.self.now.terms = ap (λ (t : Table). t.terms) c.self.view_is in
    let d : TypeId = record { 0 = 0 } in
    let n : Shape = record { root = d; ints = d; plain = d; qualifiers = 0; spelled = record { length = 0; takes_space = false } } in
    let below : c.args.id.0 < length c.self.inside.shapes.items = let e = ap length terms in omega (arith, c.requires, c.self.invariant.shapes_long, e) in
    rw (c.as_slice.ensures, ← terms) (c.self.invariant.shapes c.args.id.0 (get_or c.self.inside.shapes.items c.args.id.0 n) (present c.self.inside.shapes.items c.args.id.0 n below))
