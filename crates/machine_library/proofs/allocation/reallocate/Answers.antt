use Rattle.std.proofs.Common.{ℕ, sym, subst}
use Rattle.c_core.specs.declared.values.Pointer.{Pointer}
use Rattle.c_core.specs.declared.values.Value.{Value}
use Rattle.c_meaning.specs.Meaning.{reallocate, allocate}
use Rattle.machine_library.specs.Leads.{Leads, Runs}
use Rattle.machine_state.specs.State.{state_in, regions}
use Rattle.machine_library.proofs.Leading.{runs_err}
use Rattle.machine_library.proofs.allocation.reallocate.Goals as goal

pub returns-in_err-value-in-Null-clause-run : goal.returns-in_err-value-in-Null-clause-run
returns-in_err-value-in-Null-clause-run g c = λ tok label e.
    let bs = g.M.Memory.blocks c.args.memory.now in
    let now = g.M.Memory.blocks c.allocate.new.memory in
    let l = c.args.ledger.now in
    subst (λ (p : Pointer). Runs Value tok (reallocate c.args.span label p c.args.size) bs l now c.allocate.new.ledger c.from_residual.result) (sym c.in-Null.is)
    (subst (λ (n : ℕ). Runs Value tok (allocate label n) bs l now c.allocate.new.ledger c.from_residual.result) c.from.ensures
    (runs_err tok (allocate label c.from.result) bs now l c.allocate.new.ledger c.from_residual.result c.from_residual.ensures.0 (c.in_err-value-in-Null.ensures.run tok label e)))

pub returns-in_ok-value-in-Null-clause-run : goal.returns-in_ok-value-in-Null-clause-run
returns-in_ok-value-in-Null-clause-run g c = λ tok label e k.
    let bs = g.M.Memory.blocks c.args.memory.now in
    let now = g.M.Memory.blocks c.allocate.new.memory in
    let l = c.args.ledger.now in
    let after = k c.in_ok-value-in-Null.value (state_in now c.allocate.new.ledger) in
    subst (λ (p : Pointer). Leads tok (regions l.ranges) l.rest.log.items (reallocate c.args.span label p c.args.size k (state_in bs l)) c.allocate.new.ledger.rest.log.items after) (sym c.in-Null.is)
    (subst (λ (n : ℕ). Leads tok (regions l.ranges) l.rest.log.items (allocate label n k (state_in bs l)) c.allocate.new.ledger.rest.log.items after) c.from.ensures
    (c.in_ok-value-in-Null.ensures.run tok label e k))

pub returns-in-Object-clause-run : goal.returns-in-Object-clause-run
returns-in-Object-clause-run g c = λ tok label e.
    subst (λ (p : Pointer). Runs Value tok (reallocate c.args.span label p c.args.size) (g.M.Memory.blocks c.args.memory.now) c.args.ledger.now (g.M.Memory.blocks c.reallocate_block.new.memory) c.reallocate_block.new.ledger c.reallocate_block.result) (sym c.in-Object.is)
    (c.reallocate_block.ensures.run tok label e)
