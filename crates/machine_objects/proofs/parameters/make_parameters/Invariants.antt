use Rattle.std.proofs.Common.{◌≡◌, drop}
use Rattle.c_meaning.specs.Meaning.{parameters}
use Rattle.machine_frames.specs.Held.{AreGivenValues}
use Rattle.machine_steps.specs.Steps.{made_parameters}
use Rattle.machine_state.specs.State.{state_in, IsSound, Keeps}
use Rattle.machine_objects.proofs.parameters.make_parameters.Given as goal

abbrev pub invariant-loop-at : goal.invariant-loop-at
invariant-loop-at g l =
    record {
      run : made_parameters l.span (parameters l.at (drop l.at l.sizes)) (drop l.at l.args) (state_in (g.M.Memory.blocks l.memory) l.ledger) ≡ made_parameters l.span (parameters 0 l.sizes) l.args (state_in (g.M.Memory.blocks l.initial.memory) l.initial.ledger);
      sound : IsSound (g.M.Memory.blocks l.memory) (g.M.Memory.starts l.memory) (g.M.Memory.top l.memory) l.ledger;
      given : AreGivenValues (g.M.Memory.sizes l.memory) l.args;
      keeps : Keeps (g.M.Memory.sizes l.initial.memory) l.initial.ledger (g.M.Memory.sizes l.memory) l.ledger;
      log : l.ledger.rest.log.items ≡ l.initial.ledger.rest.log.items;
    }
