use Rattle.std.proofs.Common.{Some, Ok, Err, refl, ap, ◌∙◌}
use Rattle.tok_base.specs.declared.list.NoMemory.{NoMemory}
use Rattle.c_core.specs.declared.values.Pointer.TheVariants.{Object}
use Rattle.c_core.specs.declared.values.Value.{Value}
use Rattle.c_core.specs.declared.values.Value.TheVariants.{Ptr}
use Rattle.c_meaning.specs.Meaning.{if_granted}
use Rattle.c_meaning.specs.Storage.{resized}
use Rattle.c_meaning.specs.World.{M, release}
use Rattle.machine_library.specs.Leads.{continued, moving}
use Rattle.machine_state.specs.State.{state_in}
use Rattle.machine_state.proofs.Sound.{sound_alike}
use Rattle.machine_library.proofs.Leading.{acted_in, runs_as, runs_acts, runs_err}
use Rattle.machine_library.proofs.Quiet.{resized_alike}
use Rattle.machine_library.proofs.allocation.fill_moved.Goals as goal

pub release-requires-clause-sound : goal.release-requires-clause-sound
release-requires-clause-sound g c =
    let bs = g.M.Memory.blocks c.args.memory.now in
    let cs = g.M.Memory.blocks c.resized.new.memory in
    let w = (state_in bs c.args.ledger.now).world in
    sound_alike bs cs (g.M.Memory.starts c.args.memory.now) (g.M.Memory.starts c.resized.new.memory) (g.M.Memory.top c.args.memory.now) (g.M.Memory.top c.resized.new.memory) c.args.ledger.now c.requires.sound
    (resized_alike bs cs w c.args.span c.args.new c.args.old c.args.size c.resized.result c.in-Ok.field-0 (c.resized.ensures.value w) c.in-Ok.is) c.resized.ensures.starts c.resized.ensures.top

pub returns-in_err-release-in-Ok-clause-run : goal.returns-in_err-release-in-Ok-clause-run
returns-in_err-release-in-Ok-clause-run g c = λ tok.
    let bs = g.M.Memory.blocks c.args.memory.now in
    let mid = g.M.Memory.blocks c.resized.new.memory in
    let now = g.M.Memory.blocks c.release.new.memory in
    let l = c.args.ledger.now in
    let w = (state_in bs l).world in
    let v : Value = Ptr (Object c.args.new 0) in
    let behind : M Value = λ k s. release c.args.old (λ u. k v) s in
    runs_as tok (if_granted (Some c.args.new) (moving c.args.span c.args.old c.args.size)) behind bs mid now l c.release.new.ledger c.from_residual.result
    (λ k. acted_in (resized c.args.span c.args.new c.args.old c.args.size w) c.resized.result bs mid l (λ u. release c.args.old (λ u. k v)) (c.resized.ensures.value w)
    ∙ ap (λ q. continued q (λ u. release c.args.old (λ u. k v)) (state_in mid l)) c.in-Ok.is)
    (runs_err tok behind mid now l c.release.new.ledger c.from_residual.result c.from_residual.ensures.0 (λ k. c.in_err-release-in-Ok.ensures.run tok (λ u. k v)))

pub returns-in_ok-release-in-Ok-clause-run : goal.returns-in_ok-release-in-Ok-clause-run
returns-in_ok-release-in-Ok-clause-run g c = λ tok.
    let bs = g.M.Memory.blocks c.args.memory.now in
    let mid = g.M.Memory.blocks c.resized.new.memory in
    let now = g.M.Memory.blocks c.release.new.memory in
    let l = c.args.ledger.now in
    let w = (state_in bs l).world in
    let v : Value = Ptr (Object c.args.new 0) in
    let behind : M Value = λ k s. release c.args.old (λ u. k v) s in
    runs_as {E = NoMemory} tok (if_granted (Some c.args.new) (moving c.args.span c.args.old c.args.size)) behind bs mid now l c.release.new.ledger (Ok (Ok v))
    (λ k. acted_in (resized c.args.span c.args.new c.args.old c.args.size w) c.resized.result bs mid l (λ u. release c.args.old (λ u. k v)) (c.resized.ensures.value w)
    ∙ ap (λ q. continued q (λ u. release c.args.old (λ u. k v)) (state_in mid l)) c.in-Ok.is)
    (λ k. c.in_ok-release-in-Ok.ensures.run tok (λ u. k v))

pub returns-in-Err-clause-run : goal.returns-in-Err-clause-run
returns-in-Err-clause-run g c = λ tok.
    let bs = g.M.Memory.blocks c.args.memory.now in
    let mid = g.M.Memory.blocks c.resized.new.memory in
    let l = c.args.ledger.now in
    let w = (state_in bs l).world in
    let v : Value = Ptr (Object c.args.new 0) in
    runs_acts NoMemory tok (if_granted (Some c.args.new) (moving c.args.span c.args.old c.args.size)) bs mid l l (Err c.in-Err.end)
    (λ k. acted_in (resized c.args.span c.args.new c.args.old c.args.size w) c.resized.result bs mid l (λ u. release c.args.old (λ u. k v)) (c.resized.ensures.value w)
    ∙ ap (λ q. continued q (λ u. release c.args.old (λ u. k v)) (state_in mid l)) c.in-Err.is) refl
