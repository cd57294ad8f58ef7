use Rattle.c_tree.proofs.Views.{view_function_of}
use Rattle.c_tree.proofs.make.function_of.Goals as goal

pub returns : goal.returns
returns c = view_function_of c.args.at c.args.d c.args.params
