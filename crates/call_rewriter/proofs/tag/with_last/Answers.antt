use Rattle.std.proofs.Common.{◌∙◌, ap}
use Rattle.c_tree.specs.Bare.{bare_exprs}
use Rattle.c_tree.specs.View.{exprs_of}
use Rattle.call_rewriter.proofs.Numbering.{last_of}
use Rattle.call_rewriter.proofs.tag.with_last.Goals as goal

pub returns : goal.returns
returns c = ap (λ xs. bare_exprs (exprs_of xs)) c.in_ok-push.ensures.ok ∙ last_of c.args.args c.args.last
