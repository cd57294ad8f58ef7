use Rattle.std.proofs.Common.{length, ◌-◌}
use Rattle.type_checks.proofs.machine.Machine.run.Given as goal

abbrev pub decreases-loop-from : goal.decreases-loop-from
decreases-loop-from l = length l.words - l.from
