-- An expression whose operators are over, seen as the reader's.
use Rattle.c_reader.specs.MarkedExprs as r
use Rattle.c_symbol.specs.Shown.{shown}
use Rattle.c_stack.specs.Views.{view_expr_place}
use Rattle.c_symbol.specs.Nodes.{view_had}
use Rattle.read_close.specs.declared.operators.Reduced.{Reduced}

abbrev pub view_reduced : Reduced → r.Reduced
view_reduced x = record { id = x.id; had = view_had x.had; place = view_expr_place x.place; expr = shown x.expr }
