use Rattle.std.proofs.Common.{◌≤◌, length, arith}
use Rattle.c_world.proofs.Sound.{type_noted, type_past}
use Rattle.c_world.proofs.state.World.note_type.Goals as goal

pub returns-then-node-len-clause-seen : goal.returns-then-node-len-clause-seen
returns-then-node-len-clause-seen c = rw (c.set.ensures, ← c.self.view_is) (type_noted _ c.args.node c.args.ty)

pub returns-else-node-len-clause-seen : goal.returns-else-node-len-clause-seen
returns-else-node-len-clause-seen c =
    let past : length c.self.inside.types ≤ c.args.node = omega (arith, c.len.ensures) in
    rw (← c.self.view_is) (type_past _ c.args.node c.args.ty past)
