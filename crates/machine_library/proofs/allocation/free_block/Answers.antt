use Rattle.std.proofs.Common.{Ok, Result, ℕ, sym, ap, subst, ◌∙◌}
use Rattle.tok_base.specs.declared.list.NoMemory.{NoMemory}
use Rattle.tok_base.specs.declared.reason.Reason.{Reason}
use Rattle.c_core.specs.declared.values.Pointer.TheVariants.{Object}
use Rattle.c_core.specs.declared.values.Value.{Value}
use Rattle.c_meaning.specs.Meaning.{free}
use Rattle.c_meaning.specs.Rules.{no_value}
use Rattle.c_meaning.specs.World.{M, judged, acted, release}
use Rattle.machine_library.specs.Leads.{Leads}
use Rattle.machine_state.specs.State.{state_in, regions}
use Rattle.machine_library.proofs.Leading.{runs_as, runs_err}
use Rattle.machine_library.proofs.allocation.free_block.Goals as goal

pub returns-in_err-release-in-Ok-clause-run : goal.returns-in_err-release-in-Ok-clause-run
returns-in_err-release-in-Ok-clause-run g c = λ tok.
    let bs = g.M.Memory.blocks c.args.memory.now in
    let now = g.M.Memory.blocks c.release.new.memory in
    let l = c.args.ledger.now in
    let s = state_in bs l in
    let behind : M Value = λ k s. release c.in-Ok.old (λ u. k no_value) s in
    runs_as tok (free c.args.span (Object c.args.number c.args.offset)) behind bs bs now l c.release.new.ledger c.from_residual.result
    (λ k. ap (λ (q : Result ℕ Reason). acted (judged c.args.span q s.world) (λ n. release n (λ u. k no_value)) s) (sym c.allocated.ensures.allocated ∙ c.in-Ok.is))
    (runs_err tok behind bs now l c.release.new.ledger c.from_residual.result c.from_residual.ensures.0 (λ k. c.in_err-release-in-Ok.ensures.run tok (λ u. k no_value)))

pub returns-in_ok-release-in-Ok-clause-run : goal.returns-in_ok-release-in-Ok-clause-run
returns-in_ok-release-in-Ok-clause-run g c = λ tok k.
    let bs = g.M.Memory.blocks c.args.memory.now in
    let now = g.M.Memory.blocks c.release.new.memory in
    let l = c.args.ledger.now in
    let s = state_in bs l in
    let behind : M Value = λ k s. release c.in-Ok.old (λ u. k no_value) s in
    subst (λ (v : Value). Leads tok (regions l.ranges) l.rest.log.items (free c.args.span (Object c.args.number c.args.offset) k s) c.release.new.ledger.rest.log.items (k v (state_in now c.release.new.ledger))) (sym c.no_value.ensures)
    (runs_as {E = NoMemory} tok (free c.args.span (Object c.args.number c.args.offset)) behind bs bs now l c.release.new.ledger (Ok (Ok no_value))
    (λ k. ap (λ (q : Result ℕ Reason). acted (judged c.args.span q s.world) (λ n. release n (λ u. k no_value)) s) (sym c.allocated.ensures.allocated ∙ c.in-Ok.is))
    (λ k. c.in_ok-release-in-Ok.ensures.run tok (λ u. k no_value)) k)
