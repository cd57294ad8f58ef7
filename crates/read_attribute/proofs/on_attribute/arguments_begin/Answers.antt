use Rattle.std.proofs.Common.{map, sym}
use Rattle.c_symbol.specs.Shown.{shown_entry}
use Rattle.c_stack.specs.Views.{view_in_attribute}
use Rattle.c_symbol.specs.Nodes.{view_open}
use Rattle.read_attribute.proofs.Rest.{arguments_rest}
use Rattle.c_stack.proofs.Rest.{gives}
use Rattle.read_attribute.proofs.on_attribute.arguments_begin.Goals as goal

pub returns-in_default : goal.returns-in_default
returns-in_default c = λ env.
    let e = arguments_rest c.args.id env (view_open c.args.o) (view_in_attribute c.args.a) (map shown_entry c.args.entries) c.args.name c.args.y c.args.span c.in_default.not-RightParen in
    gives env c.first_argument.result _ _ (sym e) (c.first_argument.ensures env)
