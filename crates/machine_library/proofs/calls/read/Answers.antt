use Rattle.std.proofs.Common.{◌≡◌, ℕ, sym, ap, ◌∙◌, arith}
use Rattle.std.specs.Prelude.{slice_index_or}
use Rattle.c_meaning.specs.Rules.{no_value}
use Rattle.c_meaning.specs.Storage.{compare_bytes, string_length}
use Rattle.machine_library.specs.Leads.{function_called}
use Rattle.machine_state.specs.State.{state_in}
use Rattle.machine_state.proofs.Sound.{sound_small}
use Rattle.machine_library.proofs.Leading.{acted_in}
use Rattle.machine_library.proofs.Quiet.{three}
use Rattle.machine_library.proofs.calls.read.Goals as goal

pub compare_bytes-requires-clause-small : goal.compare_bytes-requires-clause-small
compare_bytes-requires-clause-small g c = sound_small (g.M.Memory.blocks c.args.memory.now) (g.M.Memory.starts c.args.memory.now) (g.M.Memory.top c.args.memory.now) c.args.ledger.now c.requires.sound

pub string_length-requires-clause-small : goal.string_length-requires-clause-small
string_length-requires-clause-small g c = sound_small (g.M.Memory.blocks c.args.memory.now) (g.M.Memory.starts c.args.memory.now) (g.M.Memory.top c.args.memory.now) c.args.ledger.now c.requires.sound

pub returns-in-9-clause-run : goal.returns-in-9-clause-run
returns-in-9-clause-run g c = λ label k.
    let bs = g.M.Memory.blocks c.args.memory.now in
    let l = c.args.ledger.now in
    let s = state_in bs l in
    let args = c.args.args.now in
    ap (λ (n : ℕ). function_called n c.args.span label args k s) c.in-9.is
    ∙ acted_in (compare_bytes c.args.span (slice_index_or args 0 no_value) (slice_index_or args 1 no_value) (slice_index_or args 2 no_value) s.world) c.compare_bytes.result bs bs l k
    (three (λ x y z. compare_bytes c.args.span x y z s.world) c.argument-p.result c.argument.result c.argument-in-9.result (slice_index_or args 0 no_value) (slice_index_or args 1 no_value) (slice_index_or args 2 no_value) c.argument-p.ensures.value c.argument.ensures.value c.argument-in-9.ensures.value
    ∙ c.compare_bytes.ensures.value s.world)

pub returns-in_default-clause-run : goal.returns-in_default-clause-run
returns-in_default-clause-run g c = λ label k.
    let bs = g.M.Memory.blocks c.args.memory.now in
    let l = c.args.ledger.now in
    let s = state_in bs l in
    let args = c.args.args.now in
    let low = c.requires.low in
    let high = c.requires.high in
    let other = c.in_default in
    let is : c.args.function ≡ 10 = omega (arith, low, high, other) in
    ap (λ (n : ℕ). function_called n c.args.span label args k s) is
    ∙ acted_in (string_length c.args.span (slice_index_or args 0 no_value) s.world) c.string_length.result bs bs l k
    (ap (λ x. string_length c.args.span x s.world) (sym c.argument-p.ensures.value) ∙ c.string_length.ensures.value s.world)
