use Rattle.std.proofs.Common.{ap, ◌∙◌}
use Rattle.std.specs.Prelude.{slice_index_or}
use Rattle.c_meaning.specs.Rules.{no_value}
use Rattle.c_meaning.specs.Storage.{copy_bytes}
use Rattle.c_meaning.specs.World.{acted}
use Rattle.machine_access.specs.Acts.{acted_with, over_blocks}
use Rattle.machine_state.specs.State.{state_in}
use Rattle.machine_state.proofs.Sound.{sound_alike}
use Rattle.machine_library.proofs.Quiet.{copied_alike, three}
use Rattle.machine_library.proofs.calls.copy.Goals as goal

pub returns-in-Ok-clause-run : goal.returns-in-Ok-clause-run
returns-in-Ok-clause-run g c = λ k.
    let bs = g.M.Memory.blocks c.args.memory.now in
    let cs = g.M.Memory.blocks c.copy_bytes.new.memory in
    let s = state_in bs c.args.ledger.now in
    let args = c.args.args.now in
    ap (λ o. acted o k s) (three (λ x y z. copy_bytes c.args.span c.args.may_overlap x y z s.world) c.argument-to.result c.argument-from.result c.argument-count.result (slice_index_or args 0 no_value) (slice_index_or args 1 no_value) (slice_index_or args 2 no_value) c.argument-to.ensures.value c.argument-from.ensures.value c.argument-count.ensures.value
    ∙ c.copy_bytes.ensures.value s.world ∙ ap (λ r. acted_with c.argument-to.result r (over_blocks cs s.world)) c.in-Ok.is)

pub returns-in-Ok-clause-sound : goal.returns-in-Ok-clause-sound
returns-in-Ok-clause-sound g c =
    let bs = g.M.Memory.blocks c.args.memory.now in
    let cs = g.M.Memory.blocks c.copy_bytes.new.memory in
    let w = (state_in bs c.args.ledger.now).world in
    sound_alike bs cs (g.M.Memory.starts c.args.memory.now) (g.M.Memory.starts c.copy_bytes.new.memory) (g.M.Memory.top c.args.memory.now) (g.M.Memory.top c.copy_bytes.new.memory) c.args.ledger.now c.requires.sound
    (copied_alike bs cs w c.args.span c.args.may_overlap c.argument-to.result c.argument-from.result c.argument-count.result c.copy_bytes.result c.in-Ok.field-0 (c.copy_bytes.ensures.value w) c.in-Ok.is) c.copy_bytes.ensures.starts c.copy_bytes.ensures.top

pub returns-in-Err-clause-run : goal.returns-in-Err-clause-run
returns-in-Err-clause-run g c = λ k.
    let bs = g.M.Memory.blocks c.args.memory.now in
    let cs = g.M.Memory.blocks c.copy_bytes.new.memory in
    let s = state_in bs c.args.ledger.now in
    let args = c.args.args.now in
    ap (λ o. acted o k s) (three (λ x y z. copy_bytes c.args.span c.args.may_overlap x y z s.world) c.argument-to.result c.argument-from.result c.argument-count.result (slice_index_or args 0 no_value) (slice_index_or args 1 no_value) (slice_index_or args 2 no_value) c.argument-to.ensures.value c.argument-from.ensures.value c.argument-count.ensures.value
    ∙ c.copy_bytes.ensures.value s.world ∙ ap (λ r. acted_with c.argument-to.result r (over_blocks cs s.world)) c.in-Err.is)
