use Rattle.std.proofs.Common.{sym}
use Rattle.c_symbol.specs.Shown.{shown_declarator}
use Rattle.c_stack.specs.Views.{view_declarator_place}
use Rattle.c_symbol.specs.Nodes.{view_had}
use Rattle.read_declarator.proofs.Rest.{declarator_rest}
use Rattle.c_stack.proofs.Rest.{gives}
use Rattle.read_declarator.proofs.on_declarator.declarator_next.Goals as goal

pub returns-in_default : goal.returns-in_default
returns-in_default c = λ env.
    let e = declarator_rest c.args.id c.args.end env (view_had c.args.had) (view_declarator_place c.args.k) (shown_declarator c.args.d) c.args.y c.args.span c.in_default.not-LeftBracket c.in_default.not-LeftParen in
    gives env c.end_declarator.result _ _ (sym e) (c.end_declarator.ensures env)
