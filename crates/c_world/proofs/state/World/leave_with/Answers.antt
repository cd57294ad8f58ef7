use Rattle.c_world.specs.Seen.{seen}
use Rattle.c_world.proofs.Leaving.{at_same, at_below, left_below}
use Rattle.c_world.proofs.Sound.{names_gone, names_sound}
use Rattle.c_world.proofs.state.World.leave_with.Goals as goal

pub invariant_of-self : goal.invariant_of-self
invariant_of-self c = names_sound _ _ _ c.self.invariant (rw c.leave_with.ensures.left (left_below _ _ _ c.self.invariant.names_below))

pub invariant_of-self-2 : goal.invariant_of-self-2
invariant_of-self-2 c = names_sound _ _ _ c.self.invariant (rw c.leave_with.ensures.left (left_below _ _ _ c.self.invariant.names_below))

pub returns-clause-seen : goal.returns-clause-seen
returns-clause-seen c = rw (← c.self.view_is) (names_gone _ _ _ c.leave_with.ensures.left c.saturating_sub-self-inside.ensures)

pub returns-clause-names : goal.returns-clause-names
unfolding seen
returns-clause-names c = rw (c.in_ok-names.ensures.names, ← c.self.view_is) (at_same c.self.inside.table.terms c.self.inside.depth c.self.inside.names)

pub returns-clause-valid : goal.returns-clause-valid
returns-clause-valid c = rw (c.in_ok-names.ensures.names, ← c.self.view_is) (at_below _ _ _ c.self.invariant.names_below)
