use Rattle.std.proofs.Common.{◌≡◌, [], take, drop}
use Rattle.machine_steps.specs.Steps.{made_fixed}
use Rattle.machine_state.specs.State.{state_in, IsSound, Keeps}
use Rattle.machine_objects.specs.Fixed.{all_filled, all_unfilled}
use Rattle.machine_objects.proofs.fixed.place_all.Given as goal

abbrev pub invariant-loop-at : goal.invariant-loop-at
invariant-loop-at g l =
    record {
      run : made_fixed (drop l.at l.fixed) (state_in (all_filled (take l.at l.fixed)) l.ledger) ≡ made_fixed l.fixed (state_in [] l.initial.ledger);
      placed : g.M.Memory.blocks l.memory ≡ all_unfilled (take l.at l.fixed);
      sound : IsSound (g.M.Memory.blocks l.memory) (g.M.Memory.starts l.memory) (g.M.Memory.top l.memory) l.ledger;
      keeps : Keeps (g.M.Memory.sizes l.initial.memory) l.initial.ledger (g.M.Memory.sizes l.memory) l.ledger;
      log : l.ledger.rest.log.items ≡ l.initial.ledger.rest.log.items;
    }
