use Rattle.std.proofs.Common.{sym}
use Rattle.c_symbol.specs.Shown.{shown_declarator}
use Rattle.c_stack.specs.Views.{view_in_items}
use Rattle.c_symbol.specs.Nodes.{view_had}
use Rattle.read_item.proofs.Rest.{item_declarator_rest}
use Rattle.c_stack.proofs.Rest.{gives}
use Rattle.read_item.proofs.item.item_declarator_next.Goals as goal

pub returns-in_default : goal.returns-in_default
returns-in_default c = record {
  step = λ env.
      let e = item_declarator_rest c.args.id c.args.end env (view_had c.args.had) (view_in_items c.args.q) (shown_declarator c.args.d) c.args.y c.args.span c.in_default.not-LeftBrace in
      gives env c.item_begin.result _ _ (sym e) (c.item_begin.ensures.step env);
  unnamed = c.item_begin.ensures.unnamed;
}
