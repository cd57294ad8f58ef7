-- The parts of an expression that are evaluated before its own step.
use Rattle.c_core.specs.Tree as t
use Rattle.c_core.specs.Tree.{Form, MaybeExpr, NoExpr, TheExpr}

-- the part that is evaluated first; a constant, an address and a call of the library have none
abbrev pub first_part : Form → MaybeExpr
first_part (t.Load p kind) = TheExpr p
first_part (t.Store p at kind e) = TheExpr p
first_part (t.CopyRecord p a q b size) = TheExpr p
first_part (t.Convert kind e) = TheExpr e
first_part (t.Truth e negated) = TheExpr e
first_part (t.Arith op a b) = TheExpr a
first_part (t.ShiftBits to_left a b) = TheExpr a
first_part (t.CompareInt op a b) = TheExpr a
first_part (t.PtrAdd p i size minus) = TheExpr p
first_part (t.PtrDiff p q size) = TheExpr p
first_part (t.ComparePtr op p q) = TheExpr p
first_part (t.Both a b) = TheExpr a
first_part (t.Either a b) = TheExpr a
first_part (t.Choose a b d) = TheExpr a
first_part (t.Then a b) = TheExpr a
first_part (t.Modify p at kind op e common post) = TheExpr p
first_part (t.Call f type es used) = TheExpr f
first_part (t.Const v) = NoExpr
first_part (t.Text n) = NoExpr
first_part (t.Func f) = NoExpr
first_part (t.Object p) = NoExpr
first_part (t.LibCall f es m) = NoExpr
first_part (t.Mark n) = NoExpr

-- the part that is evaluated behind it, whatever its value is
abbrev pub second_part : Form → MaybeExpr
second_part (t.Load p kind) = NoExpr
second_part (t.Store p at kind e) = TheExpr e
second_part (t.CopyRecord p a q b size) = TheExpr q
second_part (t.Convert kind e) = NoExpr
second_part (t.Truth e negated) = NoExpr
second_part (t.Arith op a b) = TheExpr b
second_part (t.ShiftBits to_left a b) = TheExpr b
second_part (t.CompareInt op a b) = TheExpr b
second_part (t.PtrAdd p i size minus) = TheExpr i
second_part (t.PtrDiff p q size) = TheExpr q
second_part (t.ComparePtr op p q) = TheExpr q
second_part (t.Both a b) = NoExpr
second_part (t.Either a b) = NoExpr
second_part (t.Choose a b d) = NoExpr
second_part (t.Then a b) = NoExpr
second_part (t.Modify p at kind op e common post) = TheExpr e
second_part (t.Call f type es used) = NoExpr
second_part (t.Const v) = NoExpr
second_part (t.Text n) = NoExpr
second_part (t.Func f) = NoExpr
second_part (t.Object p) = NoExpr
second_part (t.LibCall f es m) = NoExpr
second_part (t.Mark n) = NoExpr
