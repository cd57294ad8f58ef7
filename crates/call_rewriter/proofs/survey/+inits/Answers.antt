use Rattle.std.proofs.Common.{◌∙◌, ap, sym}
use Rattle.c_tree.specs.Bare.{bare_init}
use Rattle.c_tree.specs.View.{view_init}
use Rattle.c_tree.proofs.Views.{view_braces}
use Rattle.call_rewriter.specs.Mentions.{init_mentions}
use Rattle.call_rewriter.specs.Survey.{behind}
use Rattle.call_rewriter.proofs.survey.+inits.Goals as goal

pub init-returns-in-Braces : goal.init-returns-in-Braces
init-returns-in-Braces t c = λ rest.
    c.inits.ensures rest
    ∙ ap (λ i. behind c.args.s (init_mentions (bare_init i) rest)) (sym (view_braces c.in-Braces.field-0 c.in-Braces.is' c.in-Braces.field-2))
    ∙ ap (λ i. behind c.args.s (init_mentions (bare_init (view_init i)) rest)) (sym c.in-Braces.is)
