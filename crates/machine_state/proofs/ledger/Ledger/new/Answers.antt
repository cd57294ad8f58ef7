use Rattle.std.proofs.Common.{refl}
use Rattle.machine_state.proofs.Begin.{sound_begun}
use Rattle.machine_state.proofs.ledger.Ledger.new.Goals as goal

pub returns-clause-sound : goal.returns-clause-sound
returns-clause-sound c top high = sound_begun top _ high c.stands.ensures.legal c.requires c.new.ensures.items c.new-4.ensures.items c.new-2.ensures.items refl refl refl refl
