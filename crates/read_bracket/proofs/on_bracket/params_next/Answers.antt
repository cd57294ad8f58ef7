use Rattle.std.proofs.Common.{sym}
use Rattle.c_symbol.specs.Shown.{shown_declarator}
use Rattle.c_stack.specs.Views.{view_declarator_place}
use Rattle.c_symbol.specs.Nodes.{view_open}
use Rattle.read_bracket.proofs.Rest.{params_rest}
use Rattle.c_stack.proofs.Rest.{gives}
use Rattle.read_bracket.proofs.on_bracket.params_next.Goals as goal

pub returns-in_default : goal.returns-in_default
returns-in_default c =
    let e = params_rest c.args.id c.args.names.now (view_open c.args.o) (shown_declarator c.args.d) (view_declarator_place c.args.k) c.args.y c.args.span c.in_default.not-RightParen in
    gives c.args.names.now c.first_param.result _ _ (sym e) c.first_param.ensures
