use Rattle.std.proofs.Common.{◌≤◌, length, arith}
use Rattle.c_world.proofs.Numbering.{enum_finished, enum_past}
use Rattle.c_world.proofs.state.World.finish_enum.Goals as goal

pub returns-then-at-len-clause-seen : goal.returns-then-at-len-clause-seen
returns-then-at-len-clause-seen c = rw (c.set.ensures.items, ← c.self.view_is) (enum_finished _ c.args.number)

pub returns-else-at-len-clause-seen : goal.returns-else-at-len-clause-seen
returns-else-at-len-clause-seen c =
    let past : length c.self.inside.defined.items ≤ c.args.number = omega (arith, c.len.ensures) in
    rw (← c.self.view_is) (enum_past _ c.args.number past)
