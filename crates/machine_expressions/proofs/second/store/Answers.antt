use Rattle.std.proofs.Common.{sym, ap, ◌∙◌}
use Rattle.machine_frames.specs.Views.{state_of}
use Rattle.machine_steps.specs.Steps as steps
use Rattle.machine_expressions.proofs.second.store.Goals as goal

pub returns-clause-run : goal.returns-clause-run
returns-clause-run g c = λ r st.
    let old = g.M.Memory.blocks c.args.memory.now in
    let new = g.M.Memory.blocks c.store_at.new.memory in
    rw (← c.pointer_in.ensures) (c.acted.ensures.run old new r st c.store_at.ensures.unchanged ∙ ap (λ a. steps.acting a st (state_of old r)) (sym (c.store_at.ensures.value (state_of old r).world)))

pub returns-clause-given : goal.returns-clause-given
returns-clause-given g c = c.acted.ensures.given (g.M.Memory.sizes c.args.memory.now) c.store_at.ensures.given
