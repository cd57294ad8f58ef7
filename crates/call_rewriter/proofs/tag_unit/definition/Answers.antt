use Rattle.c_tree.specs.Tree as u
use Rattle.call_rewriter.proofs.Numbering.{tags_two}
use Rattle.call_rewriter.proofs.tag_unit.definition.Goals as goal

pub returns : goal.returns
returns c =
    let max = c.args.plan.max in
    rw c.open.ensures (rw c.open-2.ensures (rw c.open-3.ensures
    (tags_two {A = u.BlockItems → u.External} {B = u.BlockItems} {C = u.External} max _ _ _ (λ g x. g x) _ _ _ _ (tags_two max _ _ _ (λ ss d is. u.Definition ss d is) _ _ _ _ c.in_ok-specs.ensures c.in_ok-declarator.ensures) c.in_ok-items.ensures)))
