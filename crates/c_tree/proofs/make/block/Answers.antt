use Rattle.c_tree.proofs.Views.{view_block}
use Rattle.c_tree.proofs.make.block.Goals as goal

pub returns : goal.returns
returns c = view_block c.args.at c.args.items
