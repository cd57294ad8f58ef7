use Rattle.c_world.proofs.Leaving.{none_stands}
use Rattle.std.proofs.Common.{sym}
use Rattle.c_world.proofs.names.Names.leave_with.Goals as goal

pub loop-self-preserved : goal.loop-self-preserved
loop-self-preserved c = absurd (none_stands _ _ (sym c.loop-self-test.ensures) c.in-None.ensures.taken)
