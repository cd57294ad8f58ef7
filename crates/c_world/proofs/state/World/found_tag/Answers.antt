use Rattle.c_world.specs.Seen.{seen}
use Rattle.c_world.proofs.Tagged.{found_below}
use Rattle.c_world.proofs.state.World.found_tag.Goals as goal

pub returns-in-Some-clause-is : goal.returns-in-Some-clause-is
unfolding seen
returns-in-Some-clause-is c = rw (c.find.ensures, c.as_slice.ensures, c.in-Some.is, ← c.self.view_is)

pub returns-in-Some-clause-below : goal.returns-in-Some-clause-below
returns-in-Some-clause-below c = rw (c.find.ensures, ← c.self.view_is) (found_below _ _ _ _ c.self.invariant.tags_below)
