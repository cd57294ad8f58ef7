use Rattle.c_tree.proofs.Views.{items_hidden}
use Rattle.c_tree.proofs.spell_unit.+statements.Goals as goal

pub statement-returns-in-Block : goal.statement-returns-in-Block
statement-returns-in-Block t c = rw c.in-Block.is (rw (items_hidden c.in-Block.b.items) c.block.ensures)
