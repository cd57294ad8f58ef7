use Rattle.call_rewriter.proofs.Depths.{stays_flat}
use Rattle.call_rewriter.proofs.Formed.{reads_again, stays_formed}
use Rattle.call_rewriter.proofs.Unchanged.{operands_stay}
use Rattle.call_rewriter.proofs.laws.tagging_laws.Goals as goal

pub returns : goal.returns
returns c = record { formed = stays_formed; flat = stays_flat; again = reads_again; operands = operands_stay }
