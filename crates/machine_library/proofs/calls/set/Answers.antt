use Rattle.std.proofs.Common.{ap, ◌∙◌}
use Rattle.std.specs.Prelude.{slice_index_or}
use Rattle.c_meaning.specs.Rules.{no_value}
use Rattle.c_meaning.specs.Storage.{set_bytes}
use Rattle.c_meaning.specs.World.{acted}
use Rattle.machine_access.specs.Acts.{acted_with, over_blocks}
use Rattle.machine_state.specs.State.{state_in}
use Rattle.machine_state.proofs.Sound.{sound_alike}
use Rattle.machine_library.proofs.Quiet.{set_alike, three}
use Rattle.machine_library.proofs.calls.set.Goals as goal

pub returns-in-Ok-clause-run : goal.returns-in-Ok-clause-run
returns-in-Ok-clause-run g c = λ k.
    let bs = g.M.Memory.blocks c.args.memory.now in
    let cs = g.M.Memory.blocks c.set_bytes.new.memory in
    let s = state_in bs c.args.ledger.now in
    let args = c.args.args.now in
    ap (λ o. acted o k s) (three (λ x y z. set_bytes c.args.span x y z s.world) c.argument-to.result c.argument-byte.result c.argument-count.result (slice_index_or args 0 no_value) (slice_index_or args 1 no_value) (slice_index_or args 2 no_value) c.argument-to.ensures.value c.argument-byte.ensures.value c.argument-count.ensures.value
    ∙ c.set_bytes.ensures.value s.world ∙ ap (λ r. acted_with c.argument-to.result r (over_blocks cs s.world)) c.in-Ok.is)

pub returns-in-Ok-clause-sound : goal.returns-in-Ok-clause-sound
returns-in-Ok-clause-sound g c =
    let bs = g.M.Memory.blocks c.args.memory.now in
    let cs = g.M.Memory.blocks c.set_bytes.new.memory in
    let w = (state_in bs c.args.ledger.now).world in
    sound_alike bs cs (g.M.Memory.starts c.args.memory.now) (g.M.Memory.starts c.set_bytes.new.memory) (g.M.Memory.top c.args.memory.now) (g.M.Memory.top c.set_bytes.new.memory) c.args.ledger.now c.requires.sound
    (set_alike bs cs w c.args.span c.argument-to.result c.argument-byte.result c.argument-count.result c.set_bytes.result c.in-Ok.field-0 (c.set_bytes.ensures.value w) c.in-Ok.is) c.set_bytes.ensures.starts c.set_bytes.ensures.top

pub returns-in-Err-clause-run : goal.returns-in-Err-clause-run
returns-in-Err-clause-run g c = λ k.
    let bs = g.M.Memory.blocks c.args.memory.now in
    let cs = g.M.Memory.blocks c.set_bytes.new.memory in
    let s = state_in bs c.args.ledger.now in
    let args = c.args.args.now in
    ap (λ o. acted o k s) (three (λ x y z. set_bytes c.args.span x y z s.world) c.argument-to.result c.argument-byte.result c.argument-count.result (slice_index_or args 0 no_value) (slice_index_or args 1 no_value) (slice_index_or args 2 no_value) c.argument-to.ensures.value c.argument-byte.ensures.value c.argument-count.ensures.value
    ∙ c.set_bytes.ensures.value s.world ∙ ap (λ r. acted_with c.argument-to.result r (over_blocks cs s.world)) c.in-Err.is)
