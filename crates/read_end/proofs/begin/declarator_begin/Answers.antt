use Rattle.std.proofs.Common.{sym}
use Rattle.c_stack.specs.Views.{view_declarator_place}
use Rattle.read_end.proofs.Rest.{begin_rest}
use Rattle.c_stack.proofs.Rest.{gives}
use Rattle.read_end.proofs.begin.declarator_begin.Goals as goal

pub returns-in_default : goal.returns-in_default
returns-in_default c = λ env.
    let e = begin_rest c.args.id c.args.end env (view_declarator_place c.args.k) c.args.y c.args.span c.in_default.not-Name c.in_default.not-Operator c.in_default.not-LeftParen c.in_default.not-LeftBracket in
    gives env c.nameless_next.result _ _ (sym e) (c.nameless_next.ensures env)
