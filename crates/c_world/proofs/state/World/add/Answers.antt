use Rattle.c_world.specs.Seen.{seen}
use Rattle.c_world.proofs.Sound.{seen_grows, sound_grows}
use Rattle.c_world.proofs.state.World.add.Goals as goal

pub invariant_of-self : goal.invariant_of-self
invariant_of-self c =
    let e = c.add.ensures in
    sound_grows _ _ (record { grows = e.grows; records = e.records; layouts = e.layouts; members = e.members; enums = e.enums }) c.self.invariant

pub returns-clause-seen : goal.returns-clause-seen
returns-clause-seen c =
    let e = c.add.ensures in
    rw (← c.self.view_is) (seen_grows _ _ (record { grows = e.grows; records = e.records; layouts = e.layouts; members = e.members; enums = e.enums }) c.self.invariant)

pub returns-clause-cause : goal.returns-clause-cause
unfolding seen
returns-clause-cause c = rw (← c.self.view_is) c.add.ensures.cause
