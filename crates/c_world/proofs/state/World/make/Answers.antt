use Rattle.c_world.proofs.Sound.{seen_grows, sound_grows}
use Rattle.c_world.proofs.state.World.make.Goals as goal

pub invariant_of-self : goal.invariant_of-self
invariant_of-self c =
    let e = c.add.ensures in
    sound_grows _ _ (record { grows = e.grows; records = e.records; layouts = e.layouts; members = e.members; enums = e.enums }) c.self.invariant

pub returns-clause-seen : goal.returns-clause-seen
returns-clause-seen c =
    let e = c.add.ensures in
    rw (← c.self.view_is) (seen_grows _ _ (record { grows = e.grows; records = e.records; layouts = e.layouts; members = e.members; enums = e.enums }) c.self.invariant)
