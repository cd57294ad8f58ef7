-- Small programs, written as core trees.
use Rattle.std.specs.Prelude.{ℕ, ◌+◌, true, false, List, [], ◌∷◌, pos, Some, codes}
use Rattle.tok_base.specs.declared.token.Span.{Span}
use Rattle.num_ops.specs.declared.kinds.IntKind.TheVariants as k
use Rattle.num_ops.specs.declared.arithmetic.Op.TheVariants as op
use Rattle.num_ops.specs.declared.shifts.Cmp.TheVariants as cmp
use Rattle.c_core.specs.declared.values.Pointer.TheVariants.{Null}
use Rattle.c_core.specs.declared.values.Value.TheVariants as value
use Rattle.c_core.specs.declared.values.Cell.TheVariants.{Byte}
use Rattle.c_core.specs.declared.values.Scalar.{Scalar}
use Rattle.c_core.specs.declared.values.Scalar.TheVariants as scalar
use Rattle.c_core.specs.declared.tree.Place.TheVariants as place
use Rattle.c_core.specs.declared.tree.LibMark.{LibMark}
use Rattle.c_core.specs.declared.tree.LibMark.TheVariants as mark
use Rattle.c_core.specs.declared.tree.ModifyOp.TheVariants as modify
use Rattle.c_core.specs.declared.tree.FixedObject.{FixedObject}
use Rattle.c_core.specs.Tree.{Expr, At, Const, Text, Func, Object, Load, Store, Convert, Truth, Arith, CompareInt, PtrAdd, ComparePtr, Modify, Call, LibCall, Exprs, no_exprs, one_expr, NoExpr, TheExpr, Stmt, Block, Do, Init, If, Loop, Return, NoElse, no_stmts, one_stmt, Function, Program}
use Rattle.c_meaning.specs.Rules.{int}

abbrev pub span : ℕ → Span
span start = record { start = start; end = start + 1 }

-- expressions whose place in the text doesn't matter
abbrev pub local : ℕ → Expr
local x = At (span 0) (Object (place.Local x))

abbrev pub value_of : ℕ → Scalar → Expr
value_of x kind = At (span 0) (Load (local x) kind)

abbrev pub number : ℕ → Expr
number n = At (span 0) (Const (int k.Int (pos n)))

abbrev pub size : ℕ → Expr
size n = At (span 0) (Const (int k.ULong (pos n)))

abbrev pub null : Expr
null = At (span 0) (Const (value.Ptr Null))

abbrev pub set : ℕ → Scalar → Expr → Expr
set x kind e = At (span 0) (Store (local x) (span 0) kind e)

abbrev pub library : ℕ → Exprs → LibMark → Expr
library f args m = At (span 70) (LibCall f args m)

abbrev pub one : Expr → Exprs
one e = one_expr e no_exprs

abbrev pub two : Expr → Expr → Exprs
two a b = one_expr a (one b)

abbrev pub three : Expr → Expr → Expr → Exprs
three a b c = one_expr a (two b c)

-- `*p`, where p is a `char *`
abbrev pub char_at : ℕ → ℕ → Expr
char_at x start = At (span 0) (Convert k.Int (At (span start) (Load (value_of x scalar.Ptr) (scalar.Int k.Char))))

-- `*p = n;`
abbrev pub set_char : ℕ → ℕ → Stmt
set_char x n = Do (At (span 0) (Store (value_of x scalar.Ptr) (span 0) (scalar.Int k.Char) (At (span 0) (Convert k.Char (number n)))))

-- whether a pointer is null
abbrev pub is_zero : Expr → Expr
is_zero e = At (span 0) (ComparePtr cmp.Eq e null)

abbrev pub init : ℕ → Scalar → Expr → Stmt
init x kind e = Init x false (one (set x kind e))

abbrev pub return : Expr → Stmt
return e = Return (TheExpr e)

abbrev pub main_of : Stmt → Function
main_of body = record { name = codes "main"; ty = codes "int (void)"; params = []; body = Some body }

-- a program of `main` alone
abbrev pub program : Stmt → Program
program body = record { funcs = main_of body ∷ []; fixed = []; main = Some 0 }

abbrev pub malloc : LibMark → ℕ → Expr
malloc m n = library 0 (one (size n)) m

-- char *p = malloc(16); *p = 5; free(p); p = malloc(16); return *p;
abbrev pub read_of_new_block : Program
read_of_new_block =
    program (Block ((0, 8) ∷ [])
    (one_stmt (init 0 scalar.Ptr (malloc (mark.Site 0) 16))
    (one_stmt (set_char 0 5)
    (one_stmt (Do (library 3 (one (value_of 0 scalar.Ptr)) mark.Untagged))
    (one_stmt (Do (set 0 scalar.Ptr (malloc (mark.Site 1) 16)))
    (one_stmt (return (char_at 0 127)) no_stmts))))))

-- char *p = malloc(16); char *q; *p = 5; free(p); q = malloc(16); *q = 6; return *p;
abbrev pub read_of_dead_block : Program
read_of_dead_block =
    program (Block ((0, 8) ∷ (1, 8) ∷ [])
    (one_stmt (init 0 scalar.Ptr (malloc (mark.Site 0) 16))
    (one_stmt (set_char 0 5)
    (one_stmt (Do (library 3 (one (value_of 0 scalar.Ptr)) mark.Untagged))
    (one_stmt (Do (set 1 scalar.Ptr (malloc (mark.Site 1) 16)))
    (one_stmt (set_char 1 6)
    (one_stmt (return (char_at 0 144)) no_stmts)))))))

-- malloc(0); malloc(16); return malloc(1) == 0;
abbrev pub third_is_refused : Program
third_is_refused =
    program (Block []
    (one_stmt (Do (malloc (mark.Site 0) 0))
    (one_stmt (Do (malloc (mark.Site 1) 16))
    (one_stmt (return (is_zero (malloc (mark.Site 2) 1))) no_stmts))))

-- r = __alloc_token_realloc(p, 16, 1);
abbrev pub resize : Stmt
resize = Do (set 2 scalar.Ptr (library 2 (three (value_of 0 scalar.Ptr) (size 16) (size 1)) mark.Given))

-- char *p = __alloc_token_malloc(16, 0); char *q = __alloc_token_malloc(32, 1); char *r; *p = 7;
-- r = __alloc_token_realloc(p, 16, 1); if (r) return 1; free(q); if (*p != 7) return 2;
-- r = __alloc_token_realloc(p, 16, 1); return *r;
abbrev pub refused_realloc : Program
refused_realloc =
    program (Block ((0, 8) ∷ (1, 8) ∷ (2, 8) ∷ [])
    (one_stmt (init 0 scalar.Ptr (library 0 (two (size 16) (size 0)) mark.Given))
    (one_stmt (init 1 scalar.Ptr (library 0 (two (size 32) (size 1)) mark.Given))
    (one_stmt (set_char 0 7)
    (one_stmt resize
    (one_stmt (If (At (span 0) (Truth (value_of 2 scalar.Ptr) false)) (return (number 1)) NoElse)
    (one_stmt (Do (library 3 (one (value_of 1 scalar.Ptr)) mark.Untagged))
    (one_stmt (If (At (span 0) (CompareInt cmp.Ne (char_at 0 0) (number 7))) (return (number 2)) NoElse)
    (one_stmt resize
    (one_stmt (return (char_at 2 0)) no_stmts))))))))))

-- int i; for (i = 0; i < 3; i++) malloc(1); return i;
abbrev pub three_turns : Program
three_turns =
    program (Block ((0, 4) ∷ [])
    (one_stmt (Block []
    (one_stmt (Do (set 0 (scalar.Int k.Int) (number 0)))
    (one_stmt (Loop true (At (span 0) (CompareInt cmp.Lt (value_of 0 (scalar.Int k.Int)) (number 3)))
    (TheExpr (At (span 0) (Modify (local 0) (span 0) (scalar.Int k.Int) (modify.Arith op.Add) (number 1) k.Int true)))
    (Do (malloc (mark.Site 0) 1))) no_stmts)))
    (one_stmt (return (value_of 0 (scalar.Int k.Int))) no_stmts)))

-- int x = 2147483647; return x + 1;
abbrev pub overflow : Program
overflow =
    program (Block ((0, 4) ∷ [])
    (one_stmt (init 0 (scalar.Int k.Int) (number 2147483647))
    (one_stmt (return (At (span 44) (Arith op.Add (value_of 0 (scalar.Int k.Int)) (number 1)))) no_stmts)))

-- int c; while ((c = getchar()) >= 0) putchar(c); return 0;
abbrev pub echo : Program
echo =
    program (Block ((0, 4) ∷ [])
    (one_stmt (Loop true (At (span 0) (CompareInt cmp.Ge (set 0 (scalar.Int k.Int) (library 4 no_exprs mark.Untagged)) (number 0))) NoExpr
    (Do (library 5 (one (value_of 0 (scalar.Int k.Int))) mark.Untagged)))
    (one_stmt (return (number 0)) no_stmts)))

abbrev pub sum_type : List ℕ
sum_type = codes "int (int, int)"

-- the type of another function: an enumeration in place of an `int`
abbrev pub other_type : List ℕ
other_type = codes "int (int, color)"

-- int sum(int a, int b) { return a + b; }
abbrev pub sum : Function
sum = record {
  name = codes "sum";
  ty = sum_type;
  params = 4 ∷ 4 ∷ [];
  body = Some (return (At (span 0) (Arith op.Add (value_of 0 (scalar.Int k.Int)) (value_of 1 (scalar.Int k.Int)))));
}

-- int main(void) { return sum(3, 4); }, where the call is of this type
abbrev pub calls_sum : List ℕ → Program
calls_sum type = record {
  funcs = main_of (return (At (span 60) (Call (At (span 0) (Func 1)) type (two (number 3) (number 4)) true))) ∷ sum ∷ [];
  fixed = [];
  main = Some 0;
}

-- int f(void) { return f(); } int main(void) { return f(); }
abbrev pub calls_itself : Program
calls_itself = record {
  funcs = main_of (return (At (span 0) (Call (At (span 0) (Func 1)) (codes "int (void)") no_exprs true)))
      ∷ record { name = codes "f"; ty = codes "int (void)"; params = []; body = Some (return (At (span 0) (Call (At (span 0) (Func 1)) (codes "int (void)") no_exprs true))) } ∷ [];
  fixed = [];
  main = Some 0;
}

-- the text "a", as an object of the program
abbrev pub text_a : FixedObject
text_a = record { size = 2; read_only = true; defined = true; cells = (0, Byte 97) ∷ [] }

-- char *p = 0; char *q = "a"; memcpy(&p, &q, 4); return p == 0;
abbrev pub torn : Program
torn = record {
  funcs = main_of (Block ((0, 8) ∷ (1, 8) ∷ [])
      (one_stmt (init 0 scalar.Ptr null)
      (one_stmt (init 1 scalar.Ptr (At (span 0) (Text 0)))
      (one_stmt (Do (library 6 (three (local 0) (local 1) (size 4)) mark.Untagged))
      (one_stmt (return (is_zero (At (span 99) (Load (local 0) scalar.Ptr)))) no_stmts))))) ∷ [];
  fixed = text_a ∷ [];
  main = Some 0;
}

-- char a[4]; memcpy(a, a + 1, 2); return 0;
abbrev pub overlapping : Program
overlapping =
    program (Block ((0, 4) ∷ [])
    (one_stmt (Do (library 6 (three (local 0) (At (span 0) (PtrAdd (local 0) (number 1) 1 false)) (size 2)) mark.Untagged))
    (one_stmt (return (number 0)) no_stmts)))

-- "a"[0] = 1;
abbrev pub writes_text : Program
writes_text = record {
  funcs = main_of (Do (At (span 0) (Store (At (span 0) (PtrAdd (At (span 0) (Text 0)) (number 0) 1 false)) (span 87) (scalar.Int k.Char) (At (span 0) (Convert k.Char (number 1)))))) ∷ [];
  fixed = text_a ∷ [];
  main = Some 0;
}
