use Rattle.std.proofs.Common.{replicate, ap, ◌∙◌}
use Rattle.std.proofs.lemmas.Option.{slice_get_within}
use Rattle.c_core.specs.declared.values.Cell.TheVariants.{Byte}
use Rattle.c_meaning.specs.Storage.{set_cells}
use Rattle.machine_objects.specs.Fixed.{unfilled, with_cells, cells_in}
use Rattle.machine_objects.proofs.Filling.{declared_filled, defined_filled, length_with}
use Rattle.machine_objects.proofs.fixed.fill_object.Goals as goal

pub returns-then-not-object-clause-filled : goal.returns-then-not-object-clause-filled
returns-then-not-object-clause-filled g c = declared_filled (g.M.Memory.blocks c.args.memory.now) c.args.number c.args.object.now c.requires.there c.if-not-object.true

pub zero_cells-requires-clause-number : goal.zero_cells-requires-clause-number
zero_cells-requires-clause-number g c = slice_get_within (g.M.Memory.blocks c.args.memory.now) c.args.number (unfilled c.args.object.now) c.requires.there

pub set_cells-requires-clause-number : goal.set_cells-requires-clause-number
set_cells-requires-clause-number g c =
    let bs = g.M.Memory.blocks c.args.memory.now in
    length_with bs (g.M.Memory.blocks c.zero_cells.new.memory) c.args.number (replicate c.args.object.now.size (Byte 0)) (slice_get_within bs c.args.number (unfilled c.args.object.now) c.requires.there) c.in_ok-zero_cells.ensures.written

pub returns-clause-filled : goal.returns-clause-filled
returns-clause-filled g c =
    let bs = g.M.Memory.blocks c.args.memory.now in
    let mid = g.M.Memory.blocks c.zero_cells.new.memory in
    defined_filled bs mid (g.M.Memory.blocks c.set_cells.new.memory) c.args.number c.args.object.now c.requires.there c.if-not-object.false c.in_ok-zero_cells.ensures.written
    (c.in_ok-set_cells.ensures.written ∙ ap (λ l. with_cells mid c.args.number (set_cells (cells_in mid c.args.number) l)) c.as_slice.ensures)
