use Rattle.std.proofs.Common.{sym, ap, ◌∙◌}
use Rattle.c_core.specs.View.{maybe_stmt_of}
use Rattle.machine_calls.proofs.Calls.{got}
use Rattle.machine_statements.proofs.Listed.{stmt_there}
use Rattle.machine_statements.proofs.blocks.stmt_at.Goals as goal

pub returns : goal.returns
returns c =
    let h = c.get.ensures.lookup in
    ap maybe_stmt_of (got c.args.list.now c.args.number c.get.result h.1 h.3) ∙ sym (stmt_there c.args.list.now c.args.number)
