use Rattle.std.proofs.Common.{◌≡◌}
use Rattle.machine_state.specs.State.{IsSound}
use Rattle.machine_objects.proofs.Filling.{partly}
use Rattle.machine_objects.proofs.fixed.fill_all.Given as goal

abbrev pub invariant-loop-at : goal.invariant-loop-at
invariant-loop-at g l =
    record {
      filled : g.M.Memory.blocks l.memory ≡ partly l.fixed l.at;
      sound : IsSound (g.M.Memory.blocks l.memory) (g.M.Memory.starts l.memory) (g.M.Memory.top l.memory) l.ledger;
      sizes : g.M.Memory.sizes l.memory ≡ g.M.Memory.sizes l.initial.memory;
    }
