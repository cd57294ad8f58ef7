use Rattle.std.proofs.Common.{◌≡◌, ◌≤◌, length, take}
use Rattle.c_meaning.specs.Meaning.{parameters}
use Rattle.machine_state.specs.State.{state_in, IsSound, Keeps}
use Rattle.machine_objects.specs.Made.{ending}
use Rattle.machine_objects.proofs.ending.end_parameters.Given as goal

abbrev pub invariant-ending : goal.invariant-ending
invariant-ending g l =
    record {
      within : l.left ≤ length l.sizes;
      run : ending (parameters 0 (take l.left l.sizes)) (state_in (g.M.Memory.blocks l.memory) l.ledger) ≡ ending (parameters 0 l.sizes) (state_in (g.M.Memory.blocks l.initial.memory) l.initial.ledger);
      sound : IsSound (g.M.Memory.blocks l.memory) (g.M.Memory.starts l.memory) (g.M.Memory.top l.memory) l.ledger;
      keeps : Keeps (g.M.Memory.sizes l.initial.memory) l.initial.ledger (g.M.Memory.sizes l.memory) l.ledger;
      log : l.ledger.rest.log.items ≡ l.initial.ledger.rest.log.items;
    }

abbrev pub decreases-ending : goal.decreases-ending
decreases-ending g l = l.left
