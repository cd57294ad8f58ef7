use Rattle.std.proofs.Common.{map, ap, ◌∙◌}
use Rattle.c_reader.specs.MarkedDeclarations as reader
use Rattle.c_reader.specs.MarkedParts.{takes}
use Rattle.c_symbol.specs.Seen.{view_symbol}
use Rattle.c_symbol.specs.Shown.{shown_attribute, shown_declarator}
use Rattle.c_stack.specs.Views.{view_in_items}
use Rattle.c_symbol.specs.Nodes.{view_had}
use Rattle.c_stack.proofs.Rest.{gives}
use Rattle.read_item.proofs.item.item_begin.Goals as goal

pub returns-clause-step : goal.returns-clause-step
returns-clause-step c = λ env.
    let e = ap (λ o. reader.item_next c.args.id c.args.end env (record { node = o; before = view_in_items c.args.q; declarator = shown_declarator c.args.d; attributes = map shown_attribute c.new.result }) (view_symbol c.args.y) c.args.span) c.in_ok-node.ensures.ok in
    let f = ap (λ xs. reader.item_next c.args.id c.args.end env (record { node = takes c.args.q.read.node.level (view_had c.args.had); before = view_in_items c.args.q; declarator = shown_declarator c.args.d; attributes = map shown_attribute xs }) (view_symbol c.args.y) c.args.span) c.new.ensures in
    gives env c.item_next.result _ _ (e ∙ f) (c.item_next.ensures.step env)
