use Rattle.c_tree.proofs.Views.{view_braces}
use Rattle.c_tree.proofs.make.braces.Goals as goal

pub returns : goal.returns
returns c = view_braces c.args.at c.args.list c.args.has_comma
