use Rattle.c_tree.proofs.Views.{view_record_spec}
use Rattle.c_tree.proofs.make.record.Goals as goal

pub returns : goal.returns
returns c = view_record_spec c.args.at c.args.is_union c.args.tag c.args.fields
