use Rattle.c_tree.proofs.Pieces.{kept_unit}
use Rattle.c_tree.proofs.promises.pieces_law.Goals as goal

pub returns : goal.returns
returns c = kept_unit
