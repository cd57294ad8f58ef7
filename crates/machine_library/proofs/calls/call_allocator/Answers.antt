use Rattle.std.proofs.Common.{◌≡◌, ℕ, ◌*◌, sym, ap, subst, ◌∙◌, arith}
use Rattle.std.specs.Prelude.{slice_index_or}
use Rattle.c_core.specs.declared.values.Pointer.{Pointer}
use Rattle.c_core.specs.declared.values.Value.{Value}
use Rattle.c_meaning.specs.Meaning.{allocate, allocate_zeroed, reallocate, free}
use Rattle.c_meaning.specs.Rules.{no_value, natural_in, pointer_in}
use Rattle.machine_library.specs.Leads.{Leads, Runs, function_called}
use Rattle.machine_state.specs.State.{state_in, regions}
use Rattle.machine_library.proofs.Leading.{runs_err}
use Rattle.machine_library.proofs.calls.call_allocator.Goals as goal

pub returns-in_err-value-in-0-clause-run : goal.returns-in_err-value-in-0-clause-run
returns-in_err-value-in-0-clause-run g c = λ tok label e.
    let bs = g.M.Memory.blocks c.args.memory.now in
    let now = g.M.Memory.blocks c.allocate.new.memory in
    let l = c.args.ledger.now in
    let after = c.allocate.new.ledger in
    let args = c.args.args.now in
    let n : c.from.result ≡ natural_in (slice_index_or args 0 no_value) = c.from.ensures ∙ c.natural_in.ensures ∙ ap natural_in c.argument-a.ensures.value in
    subst (λ (f : ℕ). Runs Value tok (function_called f c.args.span label args) bs l now after c.from_residual.result) (sym c.in-0.is)
    (subst (λ (n : ℕ). Runs Value tok (allocate label n) bs l now after c.from_residual.result) n
    (runs_err tok (allocate label c.from.result) bs now l after c.from_residual.result c.from_residual.ensures.0 (c.in_err-value-in-0.ensures.run tok label e)))

pub returns-in_ok-value-in-0-clause-run : goal.returns-in_ok-value-in-0-clause-run
returns-in_ok-value-in-0-clause-run g c = λ tok label e k.
    let s = state_in (g.M.Memory.blocks c.args.memory.now) c.args.ledger.now in
    let l = c.args.ledger.now in
    let after = c.allocate.new.ledger in
    let last = k c.in_ok-value-in-0.value (state_in (g.M.Memory.blocks c.allocate.new.memory) after) in
    let args = c.args.args.now in
    let n : c.from.result ≡ natural_in (slice_index_or args 0 no_value) = c.from.ensures ∙ c.natural_in.ensures ∙ ap natural_in c.argument-a.ensures.value in
    subst (λ (f : ℕ). Leads tok (regions l.ranges) l.rest.log.items (function_called f c.args.span label args k s) after.rest.log.items last) (sym c.in-0.is)
    (subst (λ (n : ℕ). Leads tok (regions l.ranges) l.rest.log.items (allocate label n k s) after.rest.log.items last) n (c.in_ok-value-in-0.ensures.run tok label e k))

pub returns-in-1-clause-run : goal.returns-in-1-clause-run
returns-in-1-clause-run g c = λ tok label e.
    let bs = g.M.Memory.blocks c.args.memory.now in
    let now = g.M.Memory.blocks c.allocate_zeroed.new.memory in
    let l = c.args.ledger.now in
    let after = c.allocate_zeroed.new.ledger in
    let args = c.args.args.now in
    let a : c.from-in-1.result ≡ natural_in (slice_index_or args 0 no_value) = c.from-in-1.ensures ∙ c.natural_in-in-1.ensures ∙ ap natural_in c.argument-a.ensures.value in
    let b : c.from-in-1-2.result ≡ natural_in (slice_index_or args 1 no_value) = c.from-in-1-2.ensures ∙ c.natural_in-in-1-2.ensures ∙ ap natural_in c.argument-b.ensures.value in
    subst (λ (f : ℕ). Runs Value tok (function_called f c.args.span label args) bs l now after c.allocate_zeroed.result) (sym c.in-1.is)
    (subst (λ (n : ℕ). Runs Value tok (allocate_zeroed c.args.span label (n * natural_in (slice_index_or args 1 no_value))) bs l now after c.allocate_zeroed.result) a
    (subst (λ (m : ℕ). Runs Value tok (allocate_zeroed c.args.span label (c.from-in-1.result * m)) bs l now after c.allocate_zeroed.result) b
    (c.allocate_zeroed.ensures.run tok label e)))

pub returns-in-2-clause-run : goal.returns-in-2-clause-run
returns-in-2-clause-run g c = λ tok label e.
    let bs = g.M.Memory.blocks c.args.memory.now in
    let now = g.M.Memory.blocks c.reallocate.new.memory in
    let l = c.args.ledger.now in
    let after = c.reallocate.new.ledger in
    let args = c.args.args.now in
    let p : c.pointer_in.result ≡ pointer_in (slice_index_or args 0 no_value) = c.pointer_in.ensures ∙ ap pointer_in c.argument-a.ensures.value in
    let n : c.natural_in-in-2.result ≡ natural_in (slice_index_or args 1 no_value) = c.natural_in-in-2.ensures ∙ ap natural_in c.argument-b.ensures.value in
    subst (λ (f : ℕ). Runs Value tok (function_called f c.args.span label args) bs l now after c.reallocate.result) (sym c.in-2.is)
    (subst (λ (q : Pointer). Runs Value tok (reallocate c.args.span label q (natural_in (slice_index_or args 1 no_value))) bs l now after c.reallocate.result) p
    (subst (λ (m : ℕ). Runs Value tok (reallocate c.args.span label c.pointer_in.result m) bs l now after c.reallocate.result) n
    (c.reallocate.ensures.run tok label e)))

pub returns-in_default-clause-run : goal.returns-in_default-clause-run
returns-in_default-clause-run g c = λ tok label e.
    let bs = g.M.Memory.blocks c.args.memory.now in
    let now = g.M.Memory.blocks c.free.new.memory in
    let l = c.args.ledger.now in
    let after = c.free.new.ledger in
    let args = c.args.args.now in
    let p : c.pointer_in-in_default.result ≡ pointer_in (slice_index_or args 0 no_value) = c.pointer_in-in_default.ensures ∙ ap pointer_in c.argument-a.ensures.value in
    let low = c.requires.number in
    let other = c.in_default in
    let is : 3 ≡ c.args.function = omega (arith, low, other) in
    subst (λ (f : ℕ). Runs Value tok (function_called f c.args.span label args) bs l now after c.free.result) is
    (subst (λ (q : Pointer). Runs Value tok (free c.args.span q) bs l now after c.free.result) p (c.free.ensures.run tok))
