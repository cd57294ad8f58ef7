use Rattle.c_symbol.specs.Shown.{shown_enumerator}
use Rattle.c_stack.proofs.Empty.{empty_seen}
use Rattle.read_item.proofs.enumerator.lacks_enumerators.Goals as goal

pub returns : goal.returns
returns c = empty_seen shown_enumerator c.args.list.now c.is_empty.result c.is_empty.ensures
