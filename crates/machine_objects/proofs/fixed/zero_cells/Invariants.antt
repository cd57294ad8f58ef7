use Rattle.std.proofs.Common.{◌≡◌}
use Rattle.machine_state.specs.State.{IsSound}
use Rattle.machine_objects.specs.Fixed.{with_cells}
use Rattle.machine_objects.proofs.Filling.{zeroed_to}
use Rattle.machine_objects.proofs.fixed.zero_cells.Given as goal

abbrev pub invariant-loop-offset : goal.invariant-loop-offset
invariant-loop-offset g l =
    record {
      written : g.M.Memory.blocks l.memory ≡ with_cells (g.M.Memory.blocks l.initial.memory) l.number (zeroed_to l.size l.offset);
      sound : IsSound (g.M.Memory.blocks l.memory) (g.M.Memory.starts l.memory) (g.M.Memory.top l.memory) l.ledger;
      sizes : g.M.Memory.sizes l.memory ≡ g.M.Memory.sizes l.initial.memory;
    }
