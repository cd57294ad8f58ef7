use Rattle.c_world.specs.Seen.{seen}
use Rattle.c_world.proofs.state.World.note_completed.Goals as goal

pub returns-clause-seen : goal.returns-clause-seen
unfolding seen
returns-clause-seen c = rw (c.in_ok-put.ensures, ← c.self.view_is)
