use Rattle.std.proofs.Common.{ℕ, get_or, refl, ◌∙◌}
use Rattle.std.specs.Prelude.{slice_set}
use Rattle.c_core.specs.declared.values.Cell.{Cell}
use Rattle.c_core.specs.declared.values.Cell.TheVariants.{Undefined}
use Rattle.machine_objects.specs.Fixed.{cells_in}
use Rattle.machine_objects.proofs.Filling.{with_own, cell_written, cells_step}
use Rattle.machine_objects.proofs.fixed.set_cells.Goals as goal

pub loop-cell-init : goal.loop-cell-init
loop-cell-init g c =
    let bs = g.M.Memory.blocks c.args.memory.now in
    record {
      written = (cells_in bs c.args.number, with_own bs c.args.number (cells_in bs c.args.number) c.requires.number refl, refl);
      sound = c.requires.sound;
      sizes = refl;
    }

pub loop-cell-preserved : goal.loop-cell-preserved
loop-cell-preserved g c =
    let bs = g.M.Memory.blocks c.args.memory.now in
    let cells = c.args.cells.now in
    let i = c.loop-cell.cell-index in
    let w = c.loop-cell.invariant.written in
    let o : ℕ × Cell = get_or cells i (0, Undefined) in
    record {
      written = (
        slice_set w.0 o.0 o.1,
        cell_written bs (g.M.Memory.blocks c.loop-cell.memory) (g.M.Memory.blocks c.set_cell.new.memory) c.args.number o.0 o.1 w.0 c.requires.number w.1 c.in_ok-set_cell.ensures.written,
        cells_step w.0 cells i (0, Undefined) c.loop-cell-test.true ∙ w.2,
      );
      sound = c.in_ok-set_cell.ensures.sound;
      sizes = c.set_cell.ensures.sizes ∙ c.loop-cell.invariant.sizes;
    }
