use Rattle.c_tree.proofs.Views.{view_builtin}
use Rattle.c_tree.proofs.make.builtin.Goals as goal

pub returns : goal.returns
returns c = view_builtin c.args.at c.args.args
