use Rattle.std.proofs.Common.{Err, refl, sym, ap, subst, ◌∙◌}
use Rattle.std.specs.Prelude.{slice_get}
use Rattle.tok_base.specs.declared.list.NoMemory.{NoMemory}
use Rattle.c_core.specs.declared.values.Value.{Value}
use Rattle.c_core.specs.Library.{library_functions}
use Rattle.c_meaning.specs.Meaning.{label_of, library_call}
use Rattle.c_meaning.specs.World.{M}
use Rattle.machine_library.specs.Leads.{Runs, function_called}
use Rattle.machine_state.specs.declared.ledger.Ledger.{Ledger}
use Rattle.machine_state.specs.State.{state_in}
use Rattle.machine_library.proofs.Leading.{runs_acts, runs_quiet, if_ok_map}
use Rattle.machine_library.proofs.Quiet.{library_is}
use Rattle.machine_library.proofs.calls.call_library.Goals as goal

pub returns-then-function-lt4-clause-run : goal.returns-then-function-lt4-clause-run
returns-then-function-lt4-clause-run g c = λ tok are.
    subst (λ (m : M Value). Runs Value tok m (g.M.Memory.blocks c.args.memory.now) c.args.ledger.now (g.M.Memory.blocks c.call_allocator.new.memory) c.call_allocator.new.ledger c.call_allocator.result)
    (library_is (slice_get library_functions c.args.function) c.args.span c.args.mark c.args.args.now)
    (c.call_allocator.ensures.run tok (label_of c.args.mark c.args.args.now) (c.token_for-token.ensures tok are))

pub returns-then-function-lt6-clause-run : goal.returns-then-function-lt6-clause-run
returns-then-function-lt6-clause-run g c = λ tok are.
    let bs = g.M.Memory.blocks c.args.memory.now in
    let label = label_of c.args.mark c.args.args.now in
    subst (λ (m : M Value). Runs Value tok m bs c.args.ledger.now bs c.call_stream.new.ledger c.call_stream.result)
    (library_is (slice_get library_functions c.args.function) c.args.span c.args.mark c.args.args.now)
    (runs_quiet tok (function_called c.args.function c.args.span label c.args.args.now) bs c.args.ledger.now c.call_stream.new.ledger c.call_stream.result
    (if_ok_map c.call_stream.result (λ r h. h bs c.args.span label) c.call_stream.ensures.run) (ap (λ (x : Ledger). x.rest.log.items) c.call_stream.ensures.kept))

pub returns-then-function-lt11-clause-run : goal.returns-then-function-lt11-clause-run
returns-then-function-lt11-clause-run g c = λ tok are.
    let bs = g.M.Memory.blocks c.args.memory.now in
    let now = g.M.Memory.blocks c.call_quiet.new.memory in
    let l = c.args.ledger.now in
    runs_acts NoMemory tok (library_call (slice_get library_functions c.args.function) c.args.span c.args.mark c.args.args.now) bs now l l c.call_quiet.result
    (λ k. ap (λ (m : M Value). m k (state_in bs l)) (sym (library_is (slice_get library_functions c.args.function) c.args.span c.args.mark c.args.args.now)) ∙ c.call_quiet.ensures.run (label_of c.args.mark c.args.args.now) k) refl

pub returns-clause-run : goal.returns-clause-run
returns-clause-run g c = λ tok are.
    let bs = g.M.Memory.blocks c.args.memory.now in
    let l = c.args.ledger.now in
    runs_acts NoMemory tok (library_call (slice_get library_functions c.args.function) c.args.span c.args.mark c.args.args.now) bs bs l l (Err c.call_end.result)
    (λ k. ap (λ (m : M Value). m k (state_in bs l)) (sym (library_is (slice_get library_functions c.args.function) c.args.span c.args.mark c.args.args.now)) ∙ c.call_end.ensures (label_of c.args.mark c.args.args.now) k (state_in bs l)) refl
