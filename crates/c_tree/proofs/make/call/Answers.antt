use Rattle.c_tree.proofs.Views.{view_call}
use Rattle.c_tree.proofs.make.call.Goals as goal

pub returns : goal.returns
returns c = view_call c.args.at c.args.f c.args.args
