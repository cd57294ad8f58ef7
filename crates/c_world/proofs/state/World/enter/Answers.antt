use Rattle.std.proofs.Common.{add-one}
use Rattle.c_world.specs.Seen.{seen}
use Rattle.c_world.proofs.state.World.enter.Goals as goal

pub returns-clause-seen : goal.returns-clause-seen
unfolding seen
returns-clause-seen c = rw (← c.self.view_is, add-one)
