use Rattle.std.proofs.lemmas.List.{length-map}
use Rattle.c_world.specs.Seen.{seen}
use Rattle.c_world.proofs.state.World.next_function.Goals as goal

pub returns : goal.returns
unfolding seen
returns c = rw (← c.self.view_is, length-map, ← c.len.ensures) c.number.ensures
