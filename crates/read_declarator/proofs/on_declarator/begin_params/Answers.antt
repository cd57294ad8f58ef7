use Rattle.std.proofs.Common.{map, ap, ◌∙◌}
use Rattle.c_reader.specs.MarkedBegin as begun
use Rattle.c_reader.specs.MarkedInside as inside
use Rattle.c_symbol.specs.Seen.{view_symbol}
use Rattle.c_symbol.specs.Shown.{shown_declarator, shown_param}
use Rattle.c_stack.specs.Views.{view_declarator_place}
use Rattle.c_symbol.specs.Nodes.{view_open}
use Rattle.c_stack.proofs.Rest.{gives}
use Rattle.read_declarator.proofs.on_declarator.begin_params.Goals as goal

pub returns : goal.returns
returns c = λ env.
    let e = ap (λ k. begun.begin_specs c.args.id env k (view_symbol c.args.y) c.args.span) c.in_ok-place.ensures in
    let f = ap (λ xs. begun.begin_specs c.args.id env (inside.of_param (inside.in_params (view_open c.args.o) (shown_declarator c.args.d) (map shown_param xs) (view_declarator_place c.args.k))) (view_symbol c.args.y) c.args.span) c.new.ensures in
    gives env c.begin_specs.result _ _ (e ∙ f) (c.begin_specs.ensures env)
