use Rattle.std.proofs.Common.{◌≡◌, ap, sym, ◌∙◌}
use Rattle.c_core.specs.declared.values.Pointer.TheVariants.{Object}
use Rattle.c_core.specs.declared.values.Scalar.{Scalar}
use Rattle.c_core.specs.declared.values.Value.{Value}
use Rattle.c_core.specs.Values.{kind_of}
use Rattle.c_meaning.specs.Storage.{store_at}
use Rattle.machine_state.specs.State.{state_in}
use Rattle.machine_state.proofs.Sound.{sound_alike}
use Rattle.machine_objects.proofs.Arguments.{stored_made, trapped_made, stored_alike}
use Rattle.machine_objects.proofs.parameters.store_value.Goals as goal

pub returns-in-Ok-clause-run : goal.returns-in-Ok-clause-run
returns-in-Ok-clause-run g c =
    let bs = g.M.Memory.blocks c.args.memory.now in
    let cs = g.M.Memory.blocks c.store_at.new.memory in
    let l = c.args.ledger.now in
    let w = (state_in bs l).world in
    let v = c.args.v.now in
    let at = Object c.args.number 0 in
    let k : c.kind_of-kind.result ≡ kind_of v = c.kind_of-kind.ensures ∙ ap kind_of c.copied.ensures in
    stored_made bs cs l c.args.span c.args.number v c.in-Ok._stored c.store_at.result
    (sym (ap (λ (y : Scalar). store_at c.args.span at y v w) k) ∙ sym (ap (λ (y : Value). store_at c.args.span at c.kind_of-kind.result y w) c.copied-2.ensures) ∙ c.store_at.ensures.value w) c.in-Ok.is

pub returns-in-Ok-clause-sound : goal.returns-in-Ok-clause-sound
returns-in-Ok-clause-sound g c =
    let bs = g.M.Memory.blocks c.args.memory.now in
    let cs = g.M.Memory.blocks c.store_at.new.memory in
    let w = (state_in bs c.args.ledger.now).world in
    sound_alike bs cs (g.M.Memory.starts c.args.memory.now) (g.M.Memory.starts c.store_at.new.memory) (g.M.Memory.top c.args.memory.now) (g.M.Memory.top c.store_at.new.memory) c.args.ledger.now c.requires.sound
    (stored_alike bs cs w c.args.span (Object c.args.number 0) c.kind_of-kind.result c.copied-2.result c.in-Ok._stored c.store_at.result (c.store_at.ensures.value w) c.in-Ok.is) c.store_at.ensures.starts c.store_at.ensures.top

pub returns-in-Err-clause-run : goal.returns-in-Err-clause-run
returns-in-Err-clause-run g c =
    let bs = g.M.Memory.blocks c.args.memory.now in
    let cs = g.M.Memory.blocks c.store_at.new.memory in
    let l = c.args.ledger.now in
    let w = (state_in bs l).world in
    let v = c.args.v.now in
    let at = Object c.args.number 0 in
    let k : c.kind_of-kind.result ≡ kind_of v = c.kind_of-kind.ensures ∙ ap kind_of c.copied.ensures in
    trapped_made bs cs l c.args.span c.args.number v c.store_at.result c.in-Err.end
    (sym (ap (λ (y : Scalar). store_at c.args.span at y v w) k) ∙ sym (ap (λ (y : Value). store_at c.args.span at c.kind_of-kind.result y w) c.copied-2.ensures) ∙ c.store_at.ensures.value w) c.in-Err.is c.in-Err.ensures.unchanged
