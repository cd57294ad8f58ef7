use Rattle.c_stack.specs.Views.{view_stmt_place}
use Rattle.read_statement.proofs.Statements.{statements}
use Rattle.read_statement.proofs.on_statement.+stmt_next.Given as goal

abbrev pub decreases-stmt_next : goal.decreases-stmt_next
decreases-stmt_next l = statements (view_stmt_place l.k)
