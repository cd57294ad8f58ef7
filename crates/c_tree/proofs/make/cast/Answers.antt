use Rattle.c_tree.proofs.Views.{view_cast}
use Rattle.c_tree.proofs.make.cast.Goals as goal

pub returns : goal.returns
returns c = view_cast c.args.at c.args.name c.args.a
