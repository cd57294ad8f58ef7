use Rattle.c_world.specs.Seen.{seen}
use Rattle.c_world.proofs.state.World.is_here.Goals as goal

pub returns-in-None : goal.returns-in-None
returns-in-None c = rw (← c.in-None.ensures.is)

pub returns-in-Some : goal.returns-in-Some
unfolding seen
returns-in-Some c = rw (← c.in-Some.ensures.is, ← c.self.view_is)
