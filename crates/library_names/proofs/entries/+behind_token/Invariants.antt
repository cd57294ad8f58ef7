use Rattle.std.proofs.Common.{length}
use Rattle.library_names.proofs.entries.+behind_token.Given as goal

abbrev pub decreases-behind_token : goal.decreases-behind_token
decreases-behind_token l = length l.name.now
