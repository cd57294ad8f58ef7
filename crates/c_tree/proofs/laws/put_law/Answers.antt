use Rattle.c_tree.proofs.Appended.{rest_follows, unit_is_each, lines_are_unit}
use Rattle.c_tree.proofs.laws.put_law.Goals as goal

pub returns : goal.returns
returns c = record { rest = rest_follows; each = unit_is_each; lines = lines_are_unit }
