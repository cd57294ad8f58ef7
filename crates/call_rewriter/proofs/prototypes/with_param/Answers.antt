use Rattle.std.proofs.Common.{◌∙◌, ap}
use Rattle.c_tree.specs.Bare.{bare_params}
use Rattle.c_tree.specs.View.{params_of}
use Rattle.call_rewriter.proofs.Entering.{params_behind}
use Rattle.call_rewriter.proofs.prototypes.with_param.Goals as goal

pub returns : goal.returns
returns c = ap (λ ps. bare_params (params_of ps)) c.in_ok-push.ensures.ok ∙ params_behind c.args.ps c.args.p
