use Rattle.c_world.specs.Seen.{seen}
use Rattle.c_world.proofs.Leaving.{find_same, found_below}
use Rattle.c_world.proofs.state.World.find.Goals as goal

pub returns-clause-is : goal.returns-clause-is
unfolding seen
returns-clause-is c = rw (c.find.ensures, ← c.self.view_is) (find_same _ c.args.name.now _)

pub returns-clause-valid : goal.returns-clause-valid
returns-clause-valid c = rw (c.find.ensures, ← c.self.view_is) (found_below _ c.args.name.now _ c.self.invariant.names_below)
