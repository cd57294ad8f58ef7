use Rattle.std.proofs.Common.{◌∙◌, ap, sym}
use Rattle.c_tree.specs.Bare.{bare_stmt}
use Rattle.c_tree.specs.View.{view_stmt}
use Rattle.c_tree.proofs.Views.{view_block}
use Rattle.call_rewriter.specs.Mentions.{stmt_mentions}
use Rattle.call_rewriter.specs.Survey.{behind}
use Rattle.call_rewriter.proofs.survey.+statements.Goals as goal

pub statement-returns-in-Block : goal.statement-returns-in-Block
statement-returns-in-Block t c = λ rest.
    c.block.ensures rest
    ∙ ap (λ x. behind c.args.s (stmt_mentions (bare_stmt x) rest)) (sym (view_block c.in-Block.b.at c.in-Block.b.items))
    ∙ ap (λ x. behind c.args.s (stmt_mentions (bare_stmt (view_stmt x)) rest)) (sym c.in-Block.is)
