use Rattle.c_world.proofs.Sound.{names_gone, names_sound}
use Rattle.c_world.proofs.Leaving.{left_below}
use Rattle.c_world.proofs.state.World.leave.Goals as goal

pub invariant_of-self : goal.invariant_of-self
invariant_of-self c = names_sound _ _ _ c.self.invariant (rw c.leave.ensures (left_below _ _ _ c.self.invariant.names_below))

pub returns-clause-seen : goal.returns-clause-seen
returns-clause-seen c = let h = c.saturating_sub-self-inside in rw (← c.self.view_is) (names_gone _ _ _ c.leave.ensures h.ensures)
