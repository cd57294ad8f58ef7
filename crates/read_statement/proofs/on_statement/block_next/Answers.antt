use Rattle.std.proofs.Common.{ap, ◌∙◌}
use Rattle.c_reader.specs.MarkedInside as inside
use Rattle.c_reader.specs.MarkedStmts as reader
use Rattle.c_symbol.specs.Seen.{view_symbol}
use Rattle.c_stack.specs.Views.{view_body_place}
use Rattle.c_symbol.specs.Nodes.{view_open}
use Rattle.c_stack.proofs.Rest.{gives}
use Rattle.read_statement.proofs.on_statement.block_next.Goals as goal

pub returns : goal.returns
returns c =
    let e = ap (λ k. reader.stmt_begin c.args.id c.args.names.now k (view_symbol c.args.y) c.args.span) c.in_ok-place.ensures in
    let f = ap (λ is. reader.stmt_begin c.args.id c.args.names.now (inside.in_block (view_open c.args.o) is (view_body_place c.args.body)) (view_symbol c.args.y) c.args.span) c.in_ok-items.ensures.ok in
    gives c.args.names.now c.stmt_begin.result _ _ (e ∙ f) c.stmt_begin.ensures
