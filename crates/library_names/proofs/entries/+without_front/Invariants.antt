use Rattle.std.proofs.Common.{length}
use Rattle.library_names.proofs.entries.+without_front.Given as goal

abbrev pub decreases-without_front : goal.decreases-without_front
decreases-without_front l = length l.front.now
