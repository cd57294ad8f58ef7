use Rattle.std.proofs.Common.{◌≡◌, drop}
use Rattle.machine_steps.specs.Steps.{made_locals}
use Rattle.machine_state.specs.State.{state_in, IsSound, Keeps}
use Rattle.machine_objects.proofs.locals.make_locals.Given as goal

abbrev pub invariant-loop-object : goal.invariant-loop-object
invariant-loop-object g l =
    record {
      run : made_locals (drop l.object-index l.objects) (state_in (g.M.Memory.blocks l.memory) l.ledger) ≡ made_locals l.objects (state_in (g.M.Memory.blocks l.initial.memory) l.initial.ledger);
      sound : IsSound (g.M.Memory.blocks l.memory) (g.M.Memory.starts l.memory) (g.M.Memory.top l.memory) l.ledger;
      keeps : Keeps (g.M.Memory.sizes l.initial.memory) l.initial.ledger (g.M.Memory.sizes l.memory) l.ledger;
      log : l.ledger.rest.log.items ≡ l.initial.ledger.rest.log.items;
    }
