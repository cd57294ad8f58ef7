use Rattle.std.proofs.Common.{refl, sym, ap, ◌∙◌}
use Rattle.machine_frames.specs.Views.{state_of}
use Rattle.machine_steps.specs.Steps as steps
use Rattle.machine_expressions.proofs.Integers.{any_err}
use Rattle.machine_expressions.proofs.first.load.Goals as goal

pub returns-clause-run : goal.returns-clause-run
returns-clause-run g c = λ r st.
    let bs = g.M.Memory.blocks c.args.memory.now in
    rw (← c.pointer_in.ensures) (c.acted.ensures.run bs bs r st (any_err refl c.load_at.result) ∙ ap (λ a. steps.acting a st (state_of bs r)) (sym (c.load_at.ensures.value (state_of bs r).world)))

pub returns-clause-given : goal.returns-clause-given
returns-clause-given g c = c.acted.ensures.given (g.M.Memory.sizes c.args.memory.now) c.load_at.ensures.given
