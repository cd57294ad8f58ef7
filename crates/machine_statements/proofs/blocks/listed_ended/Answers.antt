use Rattle.c_core.proofs.Views.{view_block}
use Rattle.machine_statements.proofs.blocks.listed_ended.Goals as goal

pub list_goes_on-requires : goal.list_goes_on-requires
list_goes_on-requires c = rw (c.in-Block.is, view_block, c.as_slice.ensures, c.as_slice-in-Block.ensures)
