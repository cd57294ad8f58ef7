use Rattle.std.proofs.Common.{map, ap}
use Rattle.c_reader.specs.MarkedInside as reader
use Rattle.c_symbol.specs.Shown.{shown}
use Rattle.c_stack.specs.Views.{view_expr_place}
use Rattle.c_symbol.specs.Nodes.{view_open}
use Rattle.c_stack.proofs.Rest.{gives}
use Rattle.read_operator.proofs.on_operator.builtin_opened.Goals as goal

pub returns : goal.returns
returns c = λ env.
    let e = ap (λ xs. reader.go_on c.args.id env (reader.expr (reader.want_expr (reader.in_bracket (view_open c.args.o) (reader.of_args reader.of_builtin (map shown xs)) (view_expr_place c.args.k))))) c.new.ensures in
    gives env c.next_arg.result _ _ e (c.next_arg.ensures env)
