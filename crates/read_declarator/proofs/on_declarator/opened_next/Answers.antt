use Rattle.std.proofs.Common.{sym}
use Rattle.c_stack.specs.Views.{view_declarator_place}
use Rattle.c_symbol.specs.Nodes.{view_open}
use Rattle.read_declarator.proofs.Rest.{opened_rest}
use Rattle.c_stack.proofs.Rest.{gives}
use Rattle.read_declarator.proofs.on_declarator.opened_next.Goals as goal

pub returns-in_default : goal.returns-in_default
returns-in_default c =
    let e = opened_rest c.args.id c.args.end c.args.names.now (view_open c.args.o) (view_declarator_place c.args.k) c.args.y c.args.span c.in_default.not-RightParen in
    gives c.args.names.now c.opened_more.result _ _ (sym e) c.opened_more.ensures
