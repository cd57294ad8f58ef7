use Rattle.std.proofs.Common.{sym}
use Rattle.c_symbol.specs.Shown.{shown_first}
use Rattle.c_stack.specs.Views.{view_stmt_place}
use Rattle.c_symbol.specs.Nodes.{view_open}
use Rattle.read_statement.proofs.Rest.{condition_rest}
use Rattle.c_stack.proofs.Rest.{gives}
use Rattle.read_statement.proofs.on_statement.condition_begin.Goals as goal

pub returns-in_default : goal.returns-in_default
returns-in_default c =
    let e = condition_rest c.args.id c.args.names.now (view_open c.args.o) (shown_first c.args.first) (view_stmt_place c.args.k) c.args.y c.args.span c.in_default.not-Semicolon in
    gives c.args.names.now c.want_part.result _ _ (sym e) c.want_part.ensures
