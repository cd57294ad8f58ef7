use Rattle.c_stack.specs.Views.{view_expr_place}
use Rattle.read_close.proofs.Operands.{operands}
use Rattle.read_close.proofs.operators.+reduce.Given as goal

abbrev pub decreases-reduce : goal.decreases-reduce
decreases-reduce l = operands (view_expr_place l.k)
