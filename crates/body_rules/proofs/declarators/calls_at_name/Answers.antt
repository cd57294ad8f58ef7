use Rattle.std.proofs.Common.{◌∙◌, sym, ap, false}
use Rattle.c_tree.specs.View.{view_declarator}
use Rattle.body_rules.specs.Calls.{calls}
use Rattle.body_rules.proofs.Calls.{calls_is}
use Rattle.body_rules.proofs.declarators.calls_at_name.Goals as goal

pub returns : goal.returns
returns c = λ base e.
    c.calls.ensures ∙ ap (λ b. calls b (view_declarator c.args.declarator.now)) (sym e)
    ∙ sym (calls_is false false base (view_declarator c.args.declarator.now))
