use Rattle.c_tree.proofs.Views.{view_sizeof_type}
use Rattle.c_tree.proofs.make.sizeof_type.Goals as goal

pub returns : goal.returns
returns c = view_sizeof_type c.args.at c.args.name
