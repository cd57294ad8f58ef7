use Rattle.std.proofs.Common.{ap, ◌∙◌}
use Rattle.c_reader.specs.MarkedBegin as begun
use Rattle.c_reader.specs.MarkedInside as inside
use Rattle.c_symbol.specs.Seen.{view_symbol}
use Rattle.c_stack.proofs.Rest.{gives}
use Rattle.read_statement.proofs.on_statement.begin_declaration.Goals as goal

pub returns : goal.returns
returns c = λ env.
    let e = ap (λ k. begun.begin_specs c.args.id env k (view_symbol c.args.y) c.args.span) c.in_ok-outer.ensures in
    let f = ap (λ k. begun.begin_specs c.args.id env (inside.of_declaration k) (view_symbol c.args.y) c.args.span) c.in_ok-inner.ensures in
    gives env c.begin_specs.result _ _ (e ∙ f) (c.begin_specs.ensures env)
