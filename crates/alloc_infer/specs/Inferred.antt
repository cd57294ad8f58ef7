-- Which type an allocation is for: what Clang's manual on allocation tokens calls the allocated type, inferred from the call.
use Rattle.std.specs.Prelude.{Bool, true, false, if◌then◌else◌, is_some, Option, Some, None, option_and_then}
use Rattle.c_tree.specs.Marked as m
use Rattle.c_tree.specs.Tree.{BinaryOp, Or, And, BitOr, BitXor, BitAnd, Eq, Ne, Lt, Gt, Le, Ge, Shl, Shr, Add, Sub, Mul, Div, Rem}
use Rattle.c_types.specs.CTypes.{CType, Void, Int, Enum, Pointer, Array, Flexible, Function, Record, Named, Qualified}
use Rattle.c_types.specs.Layout.{layout_at}
use Rattle.c_types.specs.Plain.{plain}
use Rattle.c_rules.specs.Known.{Known}
use Rattle.c_rules.specs.Walk.{at_of_expr}
use Rattle.c_rules.specs.World.{or_else}
use Rattle.c_checked.specs.Told.{type_of, target_of}
use Rattle.alloc_infer.specs.declared.around.Around.{Around}
use Rattle.alloc_infer.specs.declared.around.Around.TheVariants as near

-- ---- first, what the size of is asked for

-- the arguments are taken in order; in each the first `sizeof` that is reached through parentheses and the operators
-- + - * / << >>, the left operand before the right one, gives the type of its operand
abbrev pub is_passed : BinaryOp → Bool
is_passed Add = true
is_passed Sub = true
is_passed Mul = true
is_passed Div = true
is_passed Shl = true
is_passed Shr = true
is_passed Rem = false
is_passed Lt = false
is_passed Gt = false
is_passed Le = false
is_passed Ge = false
is_passed Eq = false
is_passed Ne = false
is_passed BitAnd = false
is_passed BitXor = false
is_passed BitOr = false
is_passed And = false
is_passed Or = false

abbrev pub of_name : Known → m.TypeName → Option CType
of_name k (m.type_name at ss d) = type_of k at.id

abbrev pub first_sizeof : Known → m.Expr → Option CType
first_sizeof k (m.SizeofType at n) = of_name k n
first_sizeof k (m.SizeofExpr at a) = type_of k (at_of_expr a).id
first_sizeof k (m.Paren at a) = first_sizeof k a
first_sizeof k (m.Binary at a o b) = if is_passed o then or_else (first_sizeof k a) (first_sizeof k b) else None
first_sizeof k (m.Comma at a b) = None
first_sizeof k (m.Assign at a o b) = None
first_sizeof k (m.Cond at c a b) = None
first_sizeof k (m.Cast at n a) = None
first_sizeof k (m.Prefix at o a) = None
first_sizeof k (m.Index at a b) = None
first_sizeof k (m.Call at f es) = None
first_sizeof k (m.Dot at a n) = None
first_sizeof k (m.Arrow at a n) = None
first_sizeof k (m.Post at a s) = None
first_sizeof k (m.Name at n) = None
first_sizeof k (m.Number at n) = None
first_sizeof k (m.Char at c) = None
first_sizeof k (m.Text at ts) = None
first_sizeof k (m.Builtin at es) = None

abbrev pub first_of : Known → m.Exprs → Option CType
first_of k m.no_exprs = None
first_of k (m.expr a es) = or_else (first_sizeof k a) (first_of k es)

-- ---- else, what the call's value becomes

-- void, a function, and a struct or union that the unit leaves incomplete give no type
abbrev pub is_allocated : Known → CType → Bool
is_allocated k Void = false
is_allocated k (Function r ps) = false
is_allocated k (Record n) = is_some (layout_at k.records.layouts n)
is_allocated k (Int kind) = true
is_allocated k (Enum e) = true
is_allocated k (Pointer t) = true
is_allocated k (Array t n) = true
is_allocated k (Flexible t) = true
is_allocated k (Named n t) = true
is_allocated k (Qualified q t) = true

abbrev pub if_allocated : Known → CType → Option CType
if_allocated k t = if is_allocated k (plain t) then Some t else None

-- a pointer gives the type that it points to; another type gives none
abbrev pub pointed_by : Known → CType → Option CType
pointed_by k (Pointer t) = if_allocated k t
pointed_by k Void = None
pointed_by k (Int kind) = None
pointed_by k (Enum e) = None
pointed_by k (Array t n) = None
pointed_by k (Flexible t) = None
pointed_by k (Function r ps) = None
pointed_by k (Record n) = None
pointed_by k (Named n t) = None
pointed_by k (Qualified q t) = None

abbrev pub pointed : Known → CType → Option CType
pointed k t = pointed_by k (plain t)

-- the call, perhaps in parentheses, is the operand of a cast, whose type decides; or it is a whole initialiser, an entry of
-- braces, the right side of `=`, an argument or the operand of `return`, and is converted to a type
abbrev pub from_around : Known → Around → Option CType
from_around k near.Nothing = None
from_around k (near.Cast node) = option_and_then (pointed k) (type_of k node)
from_around k (near.Converted node) = option_and_then (pointed k) (target_of k node)

-- the first of these that applies
abbrev pub inferred : Known → Around → m.Exprs → Option CType
inferred k a es = or_else (first_of k es) (from_around k a)
