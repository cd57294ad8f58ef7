use Rattle.std.proofs.Common.{sym}
use Rattle.c_stack.specs.Views.{view_in_attribute}
use Rattle.c_symbol.specs.Nodes.{view_open}
use Rattle.read_attribute.proofs.Rest.{entries_rest}
use Rattle.c_stack.proofs.Rest.{gives}
use Rattle.read_attribute.proofs.on_attribute.entries_begin.Goals as goal

pub returns-in_default : goal.returns-in_default
returns-in_default c = λ env.
    let e = entries_rest c.args.id env (view_open c.args.o) (view_in_attribute c.args.a) c.args.y c.in_default.not-RightParen in
    gives env c.first_entry.result _ _ (sym e) (c.first_entry.ensures env)
