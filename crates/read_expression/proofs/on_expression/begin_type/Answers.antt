use Rattle.std.proofs.Common.{ap}
use Rattle.c_reader.specs.MarkedBegin as begin
use Rattle.c_symbol.specs.Seen.{view_symbol}
use Rattle.c_stack.proofs.Rest.{gives}
use Rattle.read_expression.proofs.on_expression.begin_type.Goals as goal

pub returns : goal.returns
returns c = λ env.
    let e = ap (λ k. begin.begin_specs c.args.id env k (view_symbol c.args.y) c.args.span) c.in_ok-inner.ensures in
    gives env c.begin_specs.result _ _ e (c.begin_specs.ensures env)
