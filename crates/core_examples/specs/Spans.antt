-- Where the parts of a core stand in the text.
use Rattle.std.specs.Prelude.{ℕ, ◌+◌, List, [], ◌∷◌, ◌++◌, codes, length, pos, true, false}
use Rattle.tok_base.specs.declared.token.Span.{Span}
use Rattle.num_ops.specs.declared.kinds.IntKind.TheVariants as k
use Rattle.num_ops.specs.declared.arithmetic.Op.TheVariants as op
use Rattle.num_ops.specs.declared.shifts.Cmp.TheVariants as cmp
use Rattle.c_core.specs.declared.values.Value.TheVariants as value
use Rattle.c_core.specs.declared.values.Scalar.TheVariants as scalar
use Rattle.c_core.specs.declared.values.Pointer.TheVariants.{Null}
use Rattle.c_core.specs.declared.tree.Place.TheVariants as place
use Rattle.c_core.specs.declared.tree.ModifyOp.TheVariants as modify
use Rattle.c_core.specs.Tree as core
use Rattle.c_core.specs.Tree.{Expr, no_exprs, one_expr}
use Rattle.core_examples.specs.Found.{Row, computes_at}

abbrev declarations : List ℕ
declarations = codes "char c; int i; int *p; struct t { int n; } r, *q; int g(int); void f(void) { "

abbrev becomes : List ℕ → Expr → Row
becomes e wanted = computes_at (declarations ++ (e ++ codes "; }")) wanted

-- places are counted from where the expression begins
abbrev from : (start end : ℕ) → Span
from m n = record { start = length declarations + m; end = length declarations + n }

abbrev at : (start end : ℕ) → core.Form → Expr
at m n form = core.At (from m n) form

-- the objects, and the values of scalars, that are named at a place
abbrev object : (number start end : ℕ) → Expr
object x m n = at m n (core.Object (place.Fixed x))

abbrev the_c : (start end : ℕ) → Expr
the_c m n = at m n (core.Convert k.Int (at m n (core.Load (object 0 m n) (scalar.Int k.Char))))

abbrev the_i : (start end : ℕ) → Expr
the_i m n = at m n (core.Load (object 1 m n) (scalar.Int k.Int))

abbrev the_p : (start end : ℕ) → Expr
the_p m n = at m n (core.Load (object 2 m n) scalar.Ptr)

abbrev the_q : (start end : ℕ) → Expr
the_q m n = at m n (core.Load (object 4 m n) scalar.Ptr)

abbrev int : ℕ → core.Form
int n = core.Const (value.Int (record { kind = k.Int; value = pos n }))

unfoldable pub rows : List Row
rows =
    -- each part has the place of its expression, without the parentheses around it, and a conversion that of what it converts
    becomes (codes "(c) + i") (at 0 7 (core.Arith op.Add (the_c 1 2) (the_i 6 7)))
    ∷ becomes (codes "*(p)") (at 0 4 (core.Load (the_p 2 3) (scalar.Int k.Int)))
    ∷ becomes (codes "-c") (at 0 2 (core.Arith op.Sub (at 0 2 (int 0)) (the_c 1 2)))
    ∷ becomes (codes "p == 0") (at 0 6 (core.ComparePtr cmp.Eq (the_p 0 1) (at 5 6 (core.Const (value.Ptr Null)))))
    ∷ becomes (codes "g(c)") (at 0 4 (core.Call (at 0 1 (core.Func 0)) (codes "int (int)") (one_expr (the_c 2 3) no_exprs) false))
    -- a cast has its own
    ∷ becomes (codes "(char)i") (at 0 7 (core.Convert k.Char (the_i 6 7)))
    ∷ becomes (codes "(_Bool)p") (at 0 8 (core.Convert k.Bool (at 0 8 (core.Truth (the_p 7 8) false))))
    ∷ becomes (codes "(void *)0") (at 0 9 (core.Const (value.Ptr Null)))
    -- whether a pointer is null is asked at the pointer, or at the `!`
    ∷ becomes (codes "p && i") (at 0 6 (core.Both (at 0 1 (core.Truth (the_p 0 1) false)) (the_i 5 6)))
    ∷ becomes (codes "!p") (at 0 2 (core.Truth (the_p 1 2) true))
    -- an assignment has the place of its lvalue too
    ∷ becomes (codes "p[i] = c")
    (at 0 8 (core.Store (at 0 4 (core.PtrAdd (the_p 0 1) (the_i 2 3) 4 false)) (from 0 4) (scalar.Int k.Int) (the_c 7 8)))
    ∷ becomes (codes "(q->n) += 2")
    (at 0 11 (core.Modify (at 1 5 (core.PtrAdd (the_q 1 2) (at 1 5 (core.Const (value.Int (record { kind = k.Long; value = pos 0 })))) 1 false)) (from 1 5) (scalar.Int k.Int)
    (modify.Arith op.Add) (at 10 11 (int 2)) k.Int false))
    ∷ becomes (codes "p++") (at 0 3 (core.Modify (object 2 0 1) (from 0 1) scalar.Ptr (modify.PtrAdd 4 false) (at 0 3 (int 1)) k.Int true))
    ∷ becomes (codes "r = (*q)") (at 0 8 (core.CopyRecord (object 3 0 1) (from 0 1) (the_q 6 7) (from 5 7) 4))
    ∷ []
