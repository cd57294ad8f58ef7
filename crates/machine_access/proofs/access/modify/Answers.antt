use Rattle.std.proofs.Common.{ap, ◌∙◌}
use Rattle.c_meaning.specs.Rules as rules
use Rattle.c_meaning.specs.Storage as storage
use Rattle.c_meaning.specs.World.{Acted}
use Rattle.c_core.specs.declared.values.Value.{Value}
use Rattle.machine_access.specs.Acts.{if_end, over_blocks}
use Rattle.machine_steps.specs.Steps as steps
use Rattle.machine_access.proofs.access.modify.Goals as goal

pub returns-in-Ok-clause-value : goal.returns-in-Ok-clause-value
returns-in-Ok-clause-value g c = λ w.
    let a = c.args.assignment in
    let bs = g.M.Memory.blocks c.args.memory.now in
    let f : Value → Acted Value = λ old. steps.if_judged a.span (rules.modified a.op a.common bs old c.args.operand) (λ new. steps.old_or_new a.post old (storage.store_at a.at c.pointer_in-p.result a.kind new (over_blocks bs w))) in
    rw (← c.pointer_in-p.ensures) (c.load_old.ensures.value f ∙ ap (λ r. if_end r f) c.in-Ok.is ∙ c.modify_old.ensures.value w)
