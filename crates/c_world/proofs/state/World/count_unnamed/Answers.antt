use Rattle.std.proofs.Common.{add-one}
use Rattle.c_world.specs.Seen.{seen}
use Rattle.c_world.proofs.state.World.count_unnamed.Goals as goal

pub returns-clause-seen : goal.returns-clause-seen
unfolding seen
returns-clause-seen c = rw (← c.has_name.ensures, c.if-has_name.false, ← c.self.view_is, add-one)
