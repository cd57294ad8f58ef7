use Rattle.std.proofs.Common.{◌≤◌, length, arith}
use Rattle.c_world.proofs.Sound.{target_noted, target_past}
use Rattle.c_world.proofs.state.World.note_target.Goals as goal

pub returns-then-node-len-clause-seen : goal.returns-then-node-len-clause-seen
returns-then-node-len-clause-seen c = rw (c.set.ensures, ← c.self.view_is) (target_noted _ c.args.node c.args.ty)

pub returns-else-node-len-clause-seen : goal.returns-else-node-len-clause-seen
returns-else-node-len-clause-seen c =
    let past : length c.self.inside.targets ≤ c.args.node = omega (arith, c.len.ensures) in
    rw (← c.self.view_is) (target_past _ c.args.node c.args.ty past)
