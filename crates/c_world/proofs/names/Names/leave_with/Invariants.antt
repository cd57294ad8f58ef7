use Rattle.std.proofs.Common.{◌≡◌, ◌++◌, length}
use Rattle.c_world.specs.Names.{names_left, names_at}
use Rattle.c_world.proofs.names.Names.leave_with.Given as goal

-- what is left at the end is what will be left from here, and the names of the block are those so far and those that still stand
abbrev pub invariant-loop-self : goal.invariant-loop-self
invariant-loop-self l = record {
  left : names_left l.depth l.self ≡ names_left l.depth l.initial.self;
  names : l.names ++ names_at l.depth l.self ≡ names_at l.depth l.initial.self;
}

abbrev pub decreases-loop-self : goal.decreases-loop-self
decreases-loop-self l = length l.self
