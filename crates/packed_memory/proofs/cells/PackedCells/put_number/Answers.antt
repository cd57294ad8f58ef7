use Rattle.std.proofs.Common.{take, map, ap, ◌∙◌}
use Rattle.c_core.specs.declared.values.Cell.TheVariants.{Byte}
use Rattle.c_core.specs.Blocks.{replaced}
use Rattle.packed_memory.proofs.Whole.{take-little}
use Rattle.packed_memory.proofs.cells.PackedCells.put_number.Goals as goal

pub returns : goal.returns
returns c = c.put.ensures ∙ ap (λ l. replaced c.args.self.now c.args.at (map Byte l)) (ap (λ l. take c.args.size l) c.bytes_of-bytes.ensures ∙ take-little c.args.size 8 c.args.number c.requires.size)
