use Rattle.c_tree.proofs.Views.{view_enumeration}
use Rattle.c_tree.proofs.make.enumeration.Goals as goal

pub returns : goal.returns
returns c = view_enumeration c.args.at c.args.tag c.args.list
