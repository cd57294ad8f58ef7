use Rattle.std.proofs.Common.{ap}
use Rattle.c_reader.specs.MarkedDeclarators as reader
use Rattle.c_symbol.specs.Seen.{view_symbol}
use Rattle.c_stack.proofs.Rest.{gives}
use Rattle.read_declarator.proofs.on_declarator.pointed_begin.Goals as goal

pub returns : goal.returns
returns c = λ env.
    let e = ap (λ k. reader.declarator_begin c.args.id c.args.end env k (view_symbol c.args.y) c.args.span) c.in_ok-place.ensures in
    gives env c.declarator_begin.result _ _ e (c.declarator_begin.ensures env)
