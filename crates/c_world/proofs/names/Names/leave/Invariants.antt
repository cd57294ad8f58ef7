use Rattle.std.proofs.Common.{◌≡◌, length}
use Rattle.c_world.specs.Names.{names_left}
use Rattle.c_world.proofs.names.Names.leave.Given as goal

-- what is left at the end is what will be left from here
abbrev pub invariant-loop-self : goal.invariant-loop-self
invariant-loop-self l = names_left l.depth l.self ≡ names_left l.depth l.initial.self

abbrev pub decreases-loop-self : goal.decreases-loop-self
decreases-loop-self l = length l.self
