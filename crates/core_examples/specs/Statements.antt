-- Statements and the objects of blocks (ISO/IEC 9899:2018, 6.2.4, 6.8).
use Rattle.std.specs.Prelude.{ℕ, List, [], ◌∷◌, ◌++◌, codes, true, false}
use Rattle.num_ops.specs.declared.kinds.IntKind.TheVariants as k
use Rattle.num_ops.specs.declared.arithmetic.Op.TheVariants as op
use Rattle.num_ops.specs.declared.shifts.Cmp.TheVariants as cmp
use Rattle.c_core.specs.Tree as core
use Rattle.c_core.specs.Tree.{Expr, Stmt, NoElse, Otherwise, NoExpr, TheExpr}
use Rattle.core_examples.specs.Found.{Row, has_body}
use Rattle.core_examples.specs.Wanted.{int, null, fixed, local, func, load, load_pointer, store, store_pointer, convert, truth, compare, change_after, call_unused, with_objects, block, init, part}

-- the parameter n is the local 0
abbrev declarations : List ℕ
declarations = codes "int i; int *p; int g(void); void f(int n) { "

abbrev becomes : List ℕ → Stmt → Row
becomes body wanted = has_body (declarations ++ (body ++ codes " }")) wanted

abbrev the_i : Expr
the_i = load k.Int (fixed 0)

abbrev the_p : Expr
the_p = load_pointer (fixed 1)

abbrev the_n : Expr
the_n = load k.Int (local 0)

abbrev calls_g : Expr
calls_g = call_unused (func 0) (codes "int (void)") []

abbrev do_i : Stmt
do_i = core.Do the_i

unfoldable pub rows : List Row
rows =
    becomes (codes "") (block [])
    ∷ becomes (codes ";") (block (block [] ∷ []))
    ∷ becomes (codes "i; { i; { } } n;") (block (do_i ∷ block (do_i ∷ block [] ∷ []) ∷ core.Do the_n ∷ []))
    -- selection
    ∷ becomes (codes "if (n) i;") (block (core.If the_n do_i NoElse ∷ []))
    ∷ becomes (codes "if (p) ; else i;") (block (core.If (truth the_p) (block []) (Otherwise do_i) ∷ []))
    ∷ becomes (codes "if (n) if (i) i; else g();") (block (core.If the_n (core.If the_i do_i (Otherwise (core.Do calls_g))) NoElse ∷ []))
    -- iteration
    ∷ becomes (codes "while (p) i;") (block (core.Loop true (truth the_p) NoExpr do_i ∷ []))
    ∷ becomes (codes "do i; while (n);") (block (core.Loop false the_n NoExpr do_i ∷ []))
    ∷ becomes (codes "for (i = 0; i < n; i++) g();")
    (block (block (core.Do (store k.Int (fixed 0) (int 0))
    ∷ core.Loop true (compare cmp.Lt the_i the_n) (TheExpr (change_after k.Int (fixed 0) op.Add k.Int (int 1))) (core.Do calls_g) ∷ []) ∷ []))
    ∷ becomes (codes "for (g(); p; g()) i;") (block (block (core.Do calls_g ∷ core.Loop true (truth the_p) (TheExpr calls_g) do_i ∷ []) ∷ []))
    ∷ becomes (codes "for (;;) break;") (block (block (core.Loop true (int 1) NoExpr core.Break ∷ []) ∷ []))
    ∷ becomes (codes "for (int j = 0, *k = p, m; j; ) m;")
    (block (with_objects ((1, 4) ∷ (2, 8) ∷ (3, 4) ∷ [])
    (init 1 (store k.Int (local 1) (int 0) ∷ []) ∷ init 2 (store_pointer (local 2) the_p ∷ [])
    ∷ core.Loop true (load k.Int (local 1)) NoExpr (core.Do (load k.Int (local 3))) ∷ []) ∷ []))
    ∷ becomes (codes "for (int j; n; ) { int j; j; }")
    (block (with_objects ((1, 4) ∷ []) (core.Loop true the_n NoExpr (with_objects ((2, 4) ∷ []) (core.Do (load k.Int (local 2)) ∷ [])) ∷ []) ∷ []))
    ∷ becomes (codes "while (n) { if (i) break; continue; }") (block (core.Loop true the_n NoExpr (block (core.If the_i core.Break NoElse ∷ core.Continue ∷ [])) ∷ []))
    -- declarations: the objects of a block are its own, and are made when it begins
    ∷ becomes (codes "int j; n; char k = i; j;")
    (with_objects ((1, 4) ∷ (2, 1) ∷ []) (core.Do the_n ∷ init 2 (store k.Char (local 2) (convert k.Char the_i) ∷ []) ∷ core.Do (load k.Int (local 1)) ∷ []))
    ∷ becomes (codes "int j = j;") (with_objects ((1, 4) ∷ []) (init 1 (store k.Int (local 1) (load k.Int (local 1)) ∷ []) ∷ []))
    ∷ becomes (codes "{ int n = i; n; } n;") (block (with_objects ((1, 4) ∷ []) (init 1 (store k.Int (local 1) the_i ∷ []) ∷ core.Do (load k.Int (local 1)) ∷ []) ∷ core.Do the_n ∷ []))
    ∷ becomes (codes "int a; { long b; } { int c[3]; c; }")
    (with_objects ((1, 4) ∷ []) (with_objects ((2, 8) ∷ []) [] ∷ with_objects ((3, 12) ∷ []) (core.Do (local 3) ∷ []) ∷ []))
    ∷ becomes (codes "struct s { char a; int b; } x; x.b;") (with_objects ((1, 8) ∷ []) (core.Do (load k.Int (part (local 1) 4)) ∷ []))
    -- a static one is a fixed object, and gives no statement
    ∷ becomes (codes "static int j = 5; int k; j; k;") (with_objects ((1, 4) ∷ []) (core.Do (load k.Int (fixed 2)) ∷ core.Do (load k.Int (local 1)) ∷ []))
    -- a value is returned as what the function gives
    ∷ becomes (codes "return;") (block (core.Return NoExpr ∷ []))
    ∷ has_body (codes "char f(int n) { return n; }") (block (core.Return (TheExpr (convert k.Char the_n)) ∷ []))
    ∷ has_body (codes "int *f(void) { return 0; }") (block (core.Return (TheExpr null) ∷ []))
    ∷ has_body (codes "_Bool f(int *p) { return p; }") (block (core.Return (TheExpr (convert k.Bool (truth (load_pointer (local 0))))) ∷ []))
    -- parameters are the first locals, also those without a name
    ∷ has_body (codes "int f(int, char c) { int d = c; return d; }")
    (with_objects ((2, 4) ∷ []) (init 2 (store k.Int (local 2) (convert k.Int (load k.Char (local 1))) ∷ []) ∷ core.Return (TheExpr (load k.Int (local 2))) ∷ []))
    ∷ []
