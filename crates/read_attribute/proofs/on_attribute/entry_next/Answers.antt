use Rattle.std.proofs.Common.{map, sym}
use Rattle.c_symbol.specs.Shown.{shown_entry}
use Rattle.c_stack.specs.Views.{view_in_attribute}
use Rattle.c_symbol.specs.Nodes.{view_open}
use Rattle.read_attribute.proofs.Rest.{entry_rest}
use Rattle.c_stack.proofs.Rest.{gives}
use Rattle.read_attribute.proofs.on_attribute.entry_next.Goals as goal

pub returns-in_default : goal.returns-in_default
returns-in_default c = λ env.
    let e = entry_rest c.args.id env (view_open c.args.o) (view_in_attribute c.args.a) (map shown_entry c.args.entries) c.args.name c.args.y c.in_default.not-LeftParen in
    gives env c.plain_entry.result _ _ (sym e) (c.plain_entry.ensures env)
