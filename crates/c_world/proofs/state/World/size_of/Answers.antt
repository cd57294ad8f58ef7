use Rattle.c_world.specs.Seen.{seen}
use Rattle.c_world.proofs.state.World.size_of.Goals as goal

pub returns-clause-is : goal.returns-clause-is
unfolding seen
returns-clause-is c = rw (← c.self.view_is) c.size_of.ensures.is
