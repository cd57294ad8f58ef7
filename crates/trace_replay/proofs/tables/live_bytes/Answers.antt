use Rattle.std.proofs.Common.{ℕ, ◌*◌, List, ap, ◌∙◌}
use Rattle.std.specs.Prelude.{sum}
use Rattle.trace_replay.proofs.Live.{live_is}
use Rattle.trace_replay.proofs.tables.live_bytes.Goals as goal

pub returns-clause-bytes : goal.returns-clause-bytes
returns-clause-bytes c =
    ap (λ (x : ℕ). 16 * x) (c.sum.ensures.value ∙ ap (λ (us : List ℕ). sum us) (c.as_slice.ensures ∙ c.in_ok-units.ensures.value))
    ∙ live_is c.args.first c.args.size c.args.calls.now c.requires.multiple c.requires.most c.requires.legal
