use Rattle.std.proofs.Common.{sym, ap, ◌∙◌}
use Rattle.c_core.specs.View.{maybe_expr_of}
use Rattle.machine_calls.proofs.Calls.{expr_there, got}
use Rattle.machine_calls.proofs.arguments.expr_at.Goals as goal

pub returns : goal.returns
returns c =
    let h = c.get.ensures.lookup in
    ap maybe_expr_of (got c.args.list.now c.args.number c.get.result h.1 h.3) ∙ sym (expr_there c.args.list.now c.args.number)
