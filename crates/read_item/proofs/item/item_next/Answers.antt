use Rattle.std.proofs.Common.{sym}
use Rattle.c_stack.specs.Views.{view_item_read}
use Rattle.read_item.proofs.Rest.{item_rest}
use Rattle.c_stack.proofs.Rest.{gives}
use Rattle.read_item.proofs.item.item_next.Goals as goal

pub returns-in_default : goal.returns-in_default
returns-in_default c = record {
  step = λ env.
      let e = item_rest c.args.id c.args.end env (view_item_read c.args.r) c.args.y c.args.span c.in_default.not-Attribute c.in_default.not-Operator in
      gives env c.plain_item.result _ _ (sym e) (c.plain_item.ensures.step env);
  unnamed = c.plain_item.ensures.unnamed;
}
