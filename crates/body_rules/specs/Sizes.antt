-- Whether a struct, union or enumeration with a body stands in the length of an array.
use Rattle.std.specs.Prelude.{Bool, false}
use Rattle.c_tree.specs.Marked as t
use Rattle.c_rules.specs.Bodies.{has_body}

abbrev pub size_has_body : t.MaybeExpr → Bool
size_has_body t.no_expr = false
size_has_body (t.some_expr a) = has_body a
