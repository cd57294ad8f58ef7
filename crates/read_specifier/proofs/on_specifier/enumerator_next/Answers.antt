use Rattle.std.proofs.Common.{sym}
use Rattle.c_stack.specs.Views.{view_in_enum}
use Rattle.c_symbol.specs.Nodes.{view_open}
use Rattle.read_specifier.proofs.Rest.{enumerator_rest}
use Rattle.c_stack.proofs.Rest.{gives}
use Rattle.read_specifier.proofs.on_specifier.enumerator_next.Goals as goal

pub returns-in_default : goal.returns-in_default
returns-in_default c = λ env.
    let e = enumerator_rest c.args.id c.args.end env (view_open c.args.o) c.args.name (view_in_enum c.args.k) c.args.y c.args.span (c.in_default.not-Operator) in
    gives env c.plain_enumerator.result _ _ (sym e) (c.plain_enumerator.ensures env)
