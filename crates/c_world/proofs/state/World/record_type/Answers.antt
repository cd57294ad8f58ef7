use Rattle.std.proofs.Common.{◌≡◌, ◌<◌, length, ap, arith}
use Rattle.c_types.specs.Table.{Table}
use Rattle.c_world.specs.Inner.{Inner}
use Rattle.c_world.proofs.Numbering.{type_of_record}
use Rattle.c_world.proofs.state.World.record_type.Goals as goal

pub returns-clause-is : goal.returns-clause-is
returns-clause-is c =
    let t : c.self.inside.table ≡ c.args.self.now.table = ap (λ (v : Inner). v.table) c.self.view_is in
    let below : c.args.number < length c.self.inside.record_types.items = omega (arith, c.requires, c.self.invariant.records, ap (λ (u : Table). length u.records) t) in
    rw (c.as_slice.ensures, ← t) (type_of_record _ _ c.args.number _ below c.self.invariant.record_types).1

pub returns-clause-valid : goal.returns-clause-valid
returns-clause-valid c =
    let t : c.self.inside.table ≡ c.args.self.now.table = ap (λ (v : Inner). v.table) c.self.view_is in
    let below : c.args.number < length c.self.inside.record_types.items = omega (arith, c.requires, c.self.invariant.records, ap (λ (u : Table). length u.records) t) in
    rw (c.as_slice.ensures, ← t) (type_of_record _ _ c.args.number _ below c.self.invariant.record_types).0
