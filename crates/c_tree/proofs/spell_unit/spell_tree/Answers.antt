use Rattle.c_tree.proofs.Spelling.{whole}
use Rattle.c_tree.proofs.spell_unit.spell_tree.Goals as goal

pub returns : goal.returns
returns c = whole _ _ _ c.new-out.ensures c.in_ok-externals.ensures
