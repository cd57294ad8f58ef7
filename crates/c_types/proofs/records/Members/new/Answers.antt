use Rattle.std.proofs.Common.{◌<◌, length, ap, arith}
use Rattle.name_places.specs.Placed.{placed}
use Rattle.c_types.proofs.Naming.{noted_step}
use Rattle.c_types.proofs.records.Members.new.Goals as goal

pub loop-i-preserved : goal.loop-i-preserved
loop-i-preserved c =
    let within : c.loop-i.i < length c.args.list = let e = ap length c.as_slice-member-items.ensures in omega (arith, e) in
    noted_step (placed c.loop-i.places) (placed c.note.new.self) c.args.list c.loop-i.i c.member-item.result c.as_slice.result.now within (rw c.as_slice-member-items.ensures at c.member-item.is) c.as_slice.ensures c.loop-i.invariant c.in-Ok.ensures.noted
