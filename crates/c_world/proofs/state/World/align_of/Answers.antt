use Rattle.c_world.specs.Seen.{seen}
use Rattle.c_world.proofs.state.World.align_of.Goals as goal

pub returns : goal.returns
unfolding seen
returns c = rw (← c.self.view_is) c.align_of.ensures
