use Rattle.c_tree.proofs.Views.{view_enumerators_list}
use Rattle.c_tree.proofs.make.enumerator_list.Goals as goal

pub returns : goal.returns
returns c = view_enumerators_list c.args.enumerators c.args.has_comma
