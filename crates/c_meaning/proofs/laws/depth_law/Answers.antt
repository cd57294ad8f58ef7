use Rattle.c_meaning.proofs.Depths.{depths_agree}
use Rattle.c_meaning.proofs.laws.depth_law.Goals as goal

pub returns : goal.returns
returns c = depths_agree
