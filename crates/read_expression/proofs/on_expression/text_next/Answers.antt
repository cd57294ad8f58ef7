use Rattle.std.proofs.Common.{sym}
use Rattle.c_stack.specs.Views.{view_expr_place}
use Rattle.c_stack.proofs.Rest.{gives}
use Rattle.read_expression.proofs.Rest.{text_rest}
use Rattle.read_expression.proofs.on_expression.text_next.Goals as goal

pub returns-in_default : goal.returns-in_default
returns-in_default c = λ env.
    let e = text_rest c.args.id c.args.end env c.args.from (view_expr_place c.args.k) c.args.pieces c.args.y c.args.span c.in_default.not-Text in
    gives env c.text_done.result _ _ (sym e) (c.text_done.ensures env)
