use Rattle.c_symbol.specs.Shown.{shown_field}
use Rattle.c_stack.proofs.Empty.{empty_seen}
use Rattle.read_tag.proofs.on_tag.lacks_fields.Goals as goal

pub returns : goal.returns
returns c = empty_seen shown_field c.args.fields.now c.is_empty.result c.is_empty.ensures
