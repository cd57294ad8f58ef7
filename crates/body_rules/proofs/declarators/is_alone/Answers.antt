use Rattle.std.proofs.Common.{◌∙◌, sym, ap}
use Rattle.c_tree.specs.View.{boxed_declarator, params_of}
use Rattle.c_rules.specs.Walk.{is_alone}
use Rattle.body_rules.proofs.Lists.{alone_is}
use Rattle.body_rules.proofs.declarators.is_alone.Goals as goal

pub returns-in-None : goal.returns-in-None
returns-in-None c =
    c.is_empty.ensures ∙ sym (alone_is c.args.more.now)
    ∙ ap (λ d. is_alone (boxed_declarator d) (params_of c.args.more.now)) (sym c.in-None.is)
