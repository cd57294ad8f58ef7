use Rattle.std.proofs.Common.{sym}
use Rattle.c_world.proofs.Sound.{object_noted, object_past}
use Rattle.c_world.proofs.state.World.note_object.Goals as goal

pub returns-in-None-clause-seen : goal.returns-in-None-clause-seen
returns-in-None-clause-seen c = rw (← c.self.view_is) (object_past _ c.args.number _ c.args.is_fixed (sym c.in-None.ensures.value))

pub returns-in-Some-clause-seen : goal.returns-in-Some-clause-seen
returns-in-Some-clause-seen c =
    rw (c.set.ensures, c.is_defined-is_defined.ensures, ← c.self.view_is) (object_noted _ c.args.number c.args.ty c.args.is_fixed c.in-Some.object.now (sym c.in-Some.ensures.value))
