use Rattle.std.proofs.Common.{◌∙◌, ap, sym, drop}
use Rattle.c_tree.specs.View.{boxed_declarator, params_of}
use Rattle.c_rules.specs.Walk.{is_alone}
use Rattle.check_walk.proofs.Alone.{none_behind}
use Rattle.check_walk.proofs.lists.is_only.Goals as goal

pub returns-in-None : goal.returns-in-None
returns-in-None c =
    none_behind c.args.params.now ∙ ap (λ d. is_alone (boxed_declarator d) (params_of (drop 1 c.args.params.now))) (sym c.in-None.is)
