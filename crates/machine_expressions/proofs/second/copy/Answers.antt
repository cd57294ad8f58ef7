use Rattle.std.proofs.Common.{sym, ap, ◌∙◌}
use Rattle.c_meaning.specs.Rules as rules
use Rattle.machine_frames.specs.Views.{state_of}
use Rattle.machine_steps.specs.Frames as machine
use Rattle.machine_steps.specs.Steps as steps
use Rattle.machine_expressions.proofs.Integers.{same_given}
use Rattle.machine_expressions.proofs.second.copy.Goals as goal

pub returns-in-Ok-clause-run : goal.returns-in-Ok-clause-run
returns-in-Ok-clause-run g c = λ r st.
    let old = g.M.Memory.blocks c.args.memory.now in
    let new = g.M.Memory.blocks c.copy_record.new.memory in
    rw (← c.pointer_in.ensures, ← c.pointer_in-2.ensures) (c.gives.ensures.run st (state_of new r) ∙ ap (λ v. machine.On (machine.Give v) st (state_of new r)) c.no_value.ensures
    ∙ ap (λ a. steps.acting (steps.giving rules.no_value a) st (state_of old r)) (sym (c.in-Ok.ensures.value (state_of old r).world)))

pub returns-in-Ok-clause-given : goal.returns-in-Ok-clause-given
returns-in-Ok-clause-given g c =
    let sizes = g.M.Memory.sizes c.args.memory.now in
    c.gives.ensures.given sizes (same_given sizes c.no_value.result rules.no_value c.no_value.ensures tt)

pub returns-in-Err-clause-run : goal.returns-in-Err-clause-run
returns-in-Err-clause-run g c = λ r st.
    let old = g.M.Memory.blocks c.args.memory.now in
    rw (← c.pointer_in.ensures, ← c.pointer_in-2.ensures) (ap (λ bs. machine.Over c.in-Err.end (state_of bs r)) c.in-Err.ensures.unchanged
    ∙ ap (λ a. steps.acting (steps.giving rules.no_value a) st (state_of old r)) (sym (c.in-Err.ensures.value (state_of old r).world)))
