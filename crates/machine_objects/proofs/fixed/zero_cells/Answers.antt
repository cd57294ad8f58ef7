use Rattle.std.proofs.Common.{refl, ap, ◌∙◌}
use Rattle.c_core.specs.declared.values.Cell.TheVariants.{Byte}
use Rattle.machine_objects.specs.Fixed.{with_cells}
use Rattle.machine_objects.proofs.Filling.{with_own, cell_written, zeroed_to, zeroed_none, zeroed_more}
use Rattle.machine_objects.proofs.fixed.zero_cells.Goals as goal

pub loop-offset-init : goal.loop-offset-init
loop-offset-init g c =
    let bs = g.M.Memory.blocks c.args.memory.now in
    record {
      written = with_own bs c.args.number (zeroed_to c.args.size 0) c.requires.number (c.requires.cells ∙ zeroed_none c.args.size);
      sound = c.requires.sound;
      sizes = refl;
    }

pub loop-offset-preserved : goal.loop-offset-preserved
loop-offset-preserved g c =
    let bs = g.M.Memory.blocks c.args.memory.now in
    record {
      written = cell_written bs (g.M.Memory.blocks c.loop-offset.memory) (g.M.Memory.blocks c.set_cell.new.memory) c.args.number c.loop-offset.offset (Byte 0) (zeroed_to c.args.size c.loop-offset.offset) c.requires.number c.loop-offset.invariant.written c.in_ok-set_cell.ensures.written
          ∙ ap (with_cells bs c.args.number) (zeroed_more c.args.size c.loop-offset.offset c.loop-offset-test.true);
      sound = c.in_ok-set_cell.ensures.sound;
      sizes = c.set_cell.ensures.sizes ∙ c.loop-offset.invariant.sizes;
    }
