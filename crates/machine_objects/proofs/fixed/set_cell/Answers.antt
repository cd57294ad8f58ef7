use Rattle.std.proofs.Common.{sym, subst}
use Rattle.machine_state.proofs.Blocks.{Alike, alike_initialised}
use Rattle.machine_state.proofs.Sound.{sound_alike}
use Rattle.machine_objects.proofs.fixed.set_cell.Goals as goal

pub returns-clause-sound : goal.returns-clause-sound
returns-clause-sound g c =
    let bs = g.M.Memory.blocks c.args.memory.now in
    sound_alike bs (g.M.Memory.blocks c.init.new.self) (g.M.Memory.starts c.args.memory.now) (g.M.Memory.starts c.init.new.self) (g.M.Memory.top c.args.memory.now) (g.M.Memory.top c.init.new.self) c.args.ledger.now c.requires.sound
    (subst (λ x. Alike bs x) (sym c.init.ensures.written) (alike_initialised bs c.args.number c.from.result c.args.cell)) c.init.ensures.starts c.init.ensures.top
