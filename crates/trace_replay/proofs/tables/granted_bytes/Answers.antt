use Rattle.std.proofs.Common.{ℕ, ◌*◌, List, ap, ◌∙◌}
use Rattle.trace_replay.specs.Tables.{covered}
use Rattle.trace_replay.proofs.Ever.{ever_is}
use Rattle.trace_replay.proofs.tables.granted_bytes.Goals as goal

pub returns-clause-bytes : goal.returns-clause-bytes
returns-clause-bytes c =
    ap (λ (x : ℕ). 16 * x) (c.covered.ensures.value ∙ ap (λ (us : List ℕ). covered 0 0 us) (c.as_slice.ensures ∙ c.in_ok-units.ensures.value))
    ∙ ever_is c.args.first c.args.size c.args.calls.now c.requires.multiple c.requires.most c.requires.legal
