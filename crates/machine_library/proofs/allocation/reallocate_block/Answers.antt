use Rattle.std.proofs.Common.{Result, ℕ, sym, ap, ◌∙◌}
use Rattle.tok_base.specs.declared.reason.Reason.{Reason}
use Rattle.c_core.specs.declared.values.Pointer.TheVariants.{Object}
use Rattle.c_meaning.specs.Meaning.{reallocate}
use Rattle.c_meaning.specs.World.{judged, acted}
use Rattle.machine_library.specs.Leads.{moved}
use Rattle.machine_state.specs.State.{state_in}
use Rattle.machine_library.proofs.Leading.{runs_as}
use Rattle.machine_library.proofs.allocation.reallocate_block.Goals as goal

pub returns-in-Ok-clause-run : goal.returns-in-Ok-clause-run
returns-in-Ok-clause-run g c = λ tok label e.
    let bs = g.M.Memory.blocks c.args.memory.now in
    let l = c.args.ledger.now in
    let s = state_in bs l in
    runs_as tok (reallocate c.args.span label (Object c.args.place.0 c.args.place.1) c.args.size) (moved c.args.span label c.in-Ok.old c.args.size) bs bs (g.M.Memory.blocks c.move_block.new.memory) l c.move_block.new.ledger c.move_block.result
    (λ k. ap (λ (q : Result ℕ Reason). acted (judged c.args.span q s.world) (λ old. moved c.args.span label old c.args.size k) s) (sym c.allocated.ensures.allocated ∙ c.in-Ok.is))
    (c.move_block.ensures.run tok label e)
