use Rattle.std.proofs.Common.{◌<◌, arith}
use Rattle.c_stack.specs.Views.{view_expr_place, view_operand}
use Rattle.c_symbol.specs.Nodes.{view_open}
use Rattle.read_close.proofs.Operands.{operands, fewer}
use Rattle.read_close.proofs.operators.+reduce.Goals as goal

-- src/operators.rt:95:17
pub reduce-requires : goal.reduce-requires
reduce-requires t c =
    let below : operands (view_expr_place c.in-Operand.k) < t = omega (arith, c.decreases, fewer (view_open c.in-Operand.o) (view_operand c.in-Operand.x) (view_expr_place c.in-Operand.k) (view_expr_place c.args.k) c.in-Operand.ensures) in
    (below, tt)
