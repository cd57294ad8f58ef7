use Rattle.c_world.specs.Seen.{seen}
use Rattle.c_world.proofs.state.World.is_union.Goals as goal

pub returns : goal.returns
unfolding seen
returns c = rw (← c.self.view_is) c.is_union.ensures
