use Rattle.std.proofs.Common.{ap, ◌∙◌}
use Rattle.c_reader.specs.MarkedBegin as begun
use Rattle.c_reader.specs.MarkedInside as inside
use Rattle.c_symbol.specs.Seen.{view_symbol}
use Rattle.c_stack.proofs.Rest.{gives}
use Rattle.c_parser.proofs.dispatch.want_external.Goals as goal

pub returns : goal.returns
returns c =
    let e = ap (λ k. begun.first_spec c.args.id c.args.names.now k (view_symbol c.args.y) c.args.span) c.in_ok-outer.ensures in
    let f = ap (λ k. begun.first_spec c.args.id c.args.names.now (inside.of_declaration k) (view_symbol c.args.y) c.args.span) c.in_ok-inner.ensures in
    gives c.args.names.now c.first_spec.result _ _ (e ∙ f) c.first_spec.ensures
