use Rattle.call_rewriter.proofs.Numbering.{tags_two}
use Rattle.call_rewriter.proofs.tag_unit.declaration.Goals as goal

pub returns : goal.returns
returns c =
    rw c.open.ensures (rw c.open-2.ensures
    (tags_two c.args.plan.max _ _ _ (λ ss is. record { specs = ss; items = is }) _ _ _ _ c.in_ok-specs.ensures c.in_ok-items.ensures))
