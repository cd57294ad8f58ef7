use Rattle.c_tree.proofs.Valid.{text_lexes}
use Rattle.c_tree.proofs.laws.print_law.Goals as goal

pub returns : goal.returns
returns c = text_lexes
