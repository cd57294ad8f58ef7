use Rattle.std.proofs.lemmas.List.{map-append}
use Rattle.c_world.specs.Seen.{seen}
use Rattle.c_world.proofs.state.World.add_function.Goals as goal

pub returns-clause-seen : goal.returns-clause-seen
unfolding seen
returns-clause-seen c = rw (c.in_ok-push.ensures.ok, ← c.self.view_is, map-append)
