use Rattle.c_parts.proofs.Listed.{made_block}
use Rattle.c_parts.proofs.raw.block.Goals as goal

pub returns : goal.returns
returns c = made_block c.block.result c.args.at c.args.items c.block.ensures
