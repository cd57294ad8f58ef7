use Rattle.c_tree.proofs.Valid.{spells_tokens, lines_are_tokens}
use Rattle.c_tree.proofs.laws.valid_law.Goals as goal

pub returns : goal.returns
returns c = record { tokens = spells_tokens; lines = lines_are_tokens }
