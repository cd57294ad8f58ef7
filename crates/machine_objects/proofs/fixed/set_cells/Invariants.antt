use Rattle.std.proofs.Common.{◌≡◌, List, drop}
use Rattle.c_core.specs.declared.values.Cell.{Cell}
use Rattle.c_meaning.specs.Storage.{set_cells}
use Rattle.machine_state.specs.State.{IsSound}
use Rattle.machine_objects.specs.Fixed.{with_cells, cells_in}
use Rattle.machine_objects.proofs.fixed.set_cells.Given as goal

abbrev pub invariant-loop-cell : goal.invariant-loop-cell
invariant-loop-cell g l =
    record {
      written : (xs : List Cell) × (g.M.Memory.blocks l.memory ≡ with_cells (g.M.Memory.blocks l.initial.memory) l.number xs)
          × (set_cells xs (drop l.cell-index l.cells) ≡ set_cells (cells_in (g.M.Memory.blocks l.initial.memory) l.number) l.cells);
      sound : IsSound (g.M.Memory.blocks l.memory) (g.M.Memory.starts l.memory) (g.M.Memory.top l.memory) l.ledger;
      sizes : g.M.Memory.sizes l.memory ≡ g.M.Memory.sizes l.initial.memory;
    }
