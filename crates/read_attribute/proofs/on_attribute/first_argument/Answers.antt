use Rattle.std.proofs.Common.{map, ap}
use Rattle.c_reader.specs.MarkedSpecs as reader
use Rattle.c_symbol.specs.Seen.{view_symbol}
use Rattle.c_symbol.specs.Shown.{shown_argument, shown_entry}
use Rattle.c_stack.specs.Views.{view_in_attribute}
use Rattle.c_symbol.specs.Nodes.{view_open}
use Rattle.c_stack.proofs.Rest.{gives}
use Rattle.read_attribute.proofs.on_attribute.first_argument.Goals as goal

pub returns : goal.returns
returns c = λ env.
    let e = ap (λ xs. reader.argument_begin c.args.id env (view_open c.args.o) (view_in_attribute c.args.a) (map shown_entry c.args.entries) c.args.name (map shown_argument xs) (view_symbol c.args.y) c.args.span) c.new.ensures in
    gives env c.argument_begin.result _ _ e (c.argument_begin.ensures env)
