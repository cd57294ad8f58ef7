use Rattle.std.proofs.Common.{sym}
use Rattle.c_symbol.specs.Shown.{shown_first, shown_maybe}
use Rattle.c_stack.specs.Views.{view_stmt_place}
use Rattle.c_symbol.specs.Nodes.{view_open}
use Rattle.read_statement.proofs.Rest.{step_rest}
use Rattle.c_stack.proofs.Rest.{gives}
use Rattle.read_statement.proofs.on_statement.step_begin.Goals as goal

pub returns-in_default : goal.returns-in_default
returns-in_default c =
    let e = step_rest c.args.id c.args.names.now (view_open c.args.o) (shown_first c.args.first) (shown_maybe c.args.c) (view_stmt_place c.args.k) c.args.y c.args.span c.in_default.not-RightParen in
    gives c.args.names.now c.want_part.result _ _ (sym e) c.want_part.ensures
