use Rattle.std.proofs.Common.{sym}
use Rattle.c_stack.specs.Views.{view_init_place}
use Rattle.read_bracket.proofs.Rest.{init_rest}
use Rattle.c_stack.proofs.Rest.{gives}
use Rattle.read_bracket.proofs.on_init.init_begin.Goals as goal

pub returns-in_default : goal.returns-in_default
returns-in_default c =
    let e = init_rest c.args.id c.args.names.now (view_init_place c.args.k) c.args.y c.args.span c.in_default.not-LeftBrace c.in_default.not-RightBrace in
    gives c.args.names.now c.want_init_expr.result _ _ (sym e) c.want_init_expr.ensures
