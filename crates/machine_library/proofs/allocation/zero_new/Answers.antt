use Rattle.std.proofs.Common.{ap, ◌∙◌}
use Rattle.c_core.specs.declared.values.Pointer.TheVariants.{Object}
use Rattle.c_core.specs.declared.values.Value.TheVariants.{Ptr}
use Rattle.c_meaning.specs.Storage.{zeroed}
use Rattle.machine_library.specs.Leads.{continued}
use Rattle.machine_state.specs.State.{state_in}
use Rattle.machine_state.proofs.Sound.{sound_alike}
use Rattle.machine_library.proofs.Leading.{acted_in}
use Rattle.machine_library.proofs.Quiet.{zeroed_alike}
use Rattle.machine_library.proofs.allocation.zero_new.Goals as goal

pub returns-in-Ok-clause-run : goal.returns-in-Ok-clause-run
returns-in-Ok-clause-run g c = λ k.
    let bs = g.M.Memory.blocks c.args.memory.now in
    let cs = g.M.Memory.blocks c.zeroed.new.memory in
    let l = c.args.ledger.now in
    let w = (state_in bs l).world in
    acted_in (zeroed c.args.span c.args.number c.args.size w) c.zeroed.result bs cs l (λ u. k (Ptr (Object c.args.number 0))) (c.zeroed.ensures.value w)
    ∙ ap (λ r. continued r (λ u. k (Ptr (Object c.args.number 0))) (state_in cs l)) c.in-Ok.is

pub returns-in-Ok-clause-sound : goal.returns-in-Ok-clause-sound
returns-in-Ok-clause-sound g c =
    let bs = g.M.Memory.blocks c.args.memory.now in
    let cs = g.M.Memory.blocks c.zeroed.new.memory in
    let w = (state_in bs c.args.ledger.now).world in
    sound_alike bs cs (g.M.Memory.starts c.args.memory.now) (g.M.Memory.starts c.zeroed.new.memory) (g.M.Memory.top c.args.memory.now) (g.M.Memory.top c.zeroed.new.memory) c.args.ledger.now c.requires.sound
    (zeroed_alike bs cs w c.args.span c.args.number c.args.size c.zeroed.result c.in-Ok.field-0 (c.zeroed.ensures.value w) c.in-Ok.is) c.zeroed.ensures.starts c.zeroed.ensures.top

pub returns-in-Err-clause-run : goal.returns-in-Err-clause-run
returns-in-Err-clause-run g c = λ k.
    let bs = g.M.Memory.blocks c.args.memory.now in
    let cs = g.M.Memory.blocks c.zeroed.new.memory in
    let l = c.args.ledger.now in
    let w = (state_in bs l).world in
    acted_in (zeroed c.args.span c.args.number c.args.size w) c.zeroed.result bs cs l (λ u. k (Ptr (Object c.args.number 0))) (c.zeroed.ensures.value w)
    ∙ ap (λ r. continued r (λ u. k (Ptr (Object c.args.number 0))) (state_in cs l)) c.in-Err.is
