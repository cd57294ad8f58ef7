use Rattle.std.proofs.Common.{sym}
use Rattle.c_symbol.specs.Shown.{shown_qualifiers}
use Rattle.c_stack.specs.Views.{view_declarator_place}
use Rattle.c_symbol.specs.Nodes.{view_open}
use Rattle.read_declarator.proofs.Rest.{star_rest}
use Rattle.c_stack.proofs.Rest.{gives}
use Rattle.read_declarator.proofs.on_declarator.star_next.Goals as goal

pub returns-in_default : goal.returns-in_default
returns-in_default c = λ env.
    let e = star_rest c.args.id c.args.end env (view_open c.args.o) (shown_qualifiers c.args.qualifiers) (view_declarator_place c.args.k) c.args.y c.args.span c.in_default.not-Keyword in
    gives env c.pointed_begin.result _ _ (sym e) (c.pointed_begin.ensures env)
