use Rattle.std.proofs.Common.{sym}
use Rattle.c_symbol.specs.Shown.{shown_declarator}
use Rattle.c_stack.specs.Views.{view_declarator_place}
use Rattle.c_symbol.specs.Nodes.{view_open}
use Rattle.read_bracket.proofs.Rest.{array_rest}
use Rattle.c_stack.proofs.Rest.{gives}
use Rattle.read_bracket.proofs.on_bracket.array_next.Goals as goal

pub returns-in_default : goal.returns-in_default
returns-in_default c =
    let e = array_rest c.args.id c.args.names.now (view_open c.args.o) (shown_declarator c.args.d) (view_declarator_place c.args.k) c.args.y c.args.span c.in_default.not-RightBracket in
    gives c.args.names.now c.length_begin.result _ _ (sym e) c.length_begin.ensures
