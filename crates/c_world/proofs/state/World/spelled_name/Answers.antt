use Rattle.c_world.specs.Seen.{seen}
use Rattle.c_world.proofs.state.World.spelled_name.Goals as goal

pub returns-in-None : goal.returns-in-None
unfolding seen
returns-in-None c = rw (← c.self.view_is, c.in-None.is) c.own_name.ensures
