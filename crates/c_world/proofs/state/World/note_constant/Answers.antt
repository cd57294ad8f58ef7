use Rattle.std.proofs.Common.{◌≤◌, length, arith}
use Rattle.c_world.specs.Seen.{seen}
use Rattle.c_world.proofs.Sound.{constant_past}
use Rattle.c_world.proofs.state.World.note_constant.Goals as goal

pub returns-then-node-len-clause-seen : goal.returns-then-node-len-clause-seen
unfolding seen
returns-then-node-len-clause-seen c = rw (c.set.ensures, ← c.self.view_is)

pub returns-else-node-len-clause-seen : goal.returns-else-node-len-clause-seen
returns-else-node-len-clause-seen c =
    let past : length c.self.inside.constants ≤ c.args.node = omega (arith, c.len.ensures) in
    rw (← c.self.view_is) (constant_past _ c.args.node c.args.value past)
