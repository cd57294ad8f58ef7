use Rattle.std.proofs.Common.{map}
use Rattle.c_tree.specs.Bare.{bare_attribute}
use Rattle.c_tree.specs.View.{view_attribute}
use Rattle.call_rewriter.proofs.Numbering.{tags_two}
use Rattle.call_rewriter.proofs.tag_unit.item.Goals as goal

pub returns : goal.returns
returns c =
    rw c.open.ensures (rw c.open-2.ensures (rw c.in_ok-attributes.ensures
    (tags_two c.args.plan.max _ _ _ (λ d init. record { declarator = d; attributes = map bare_attribute (map view_attribute c.args.i.now.attributes); init = init }) _ _ _ _ c.in_ok-declarator.ensures c.in_ok-init.ensures)))
