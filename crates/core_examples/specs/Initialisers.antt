-- Initialisers of automatic objects (ISO/IEC 9899:2018, 6.7.9).
use Rattle.std.specs.Prelude.{ℕ, List, [], ◌∷◌, ◌++◌, codes, pos}
use Rattle.num_ops.specs.declared.kinds.IntKind.TheVariants as k
use Rattle.c_core.specs.Tree.{Expr, Stmt}
use Rattle.core_examples.specs.Found.{Row, has_body}
use Rattle.core_examples.specs.Wanted.{number, int, null, fixed, local, text, func, load, load_pointer, store, store_pointer, copy, convert, truth, forward, part, with_objects, init, init_zeros}

-- the one object of the body has the local's number 0
abbrev object : List ℕ → (size : ℕ) → Stmt → Row
object body n i = has_body (codes "struct t { char c; int n; int m[2]; }; struct t *q; void f(void) { " ++ (body ++ codes " }")) (with_objects ((0, n) ∷ []) (i ∷ []))

abbrev the_q : Expr
the_q = load_pointer (fixed 0)

abbrev at : ℕ → Expr
at n = part (local 0) n

-- an int at an offset, and a byte
abbrev int_at : Expr → ℕ → Expr
int_at p n = store k.Int p (int n)

abbrev byte : Expr → ℕ → Expr
byte p n = store k.UChar p (number k.UChar (pos n))

unfoldable pub rows : List Row
rows =
    -- a scalar, perhaps in braces
    object (codes "char x = 300;") 1 (init 0 (store k.Char (local 0) (convert k.Char (int 300)) ∷ []))
    ∷ object (codes "int x = { 1 };") 4 (init 0 (int_at (local 0) 1 ∷ []))
    ∷ object (codes "_Bool x = q;") 1 (init 0 (store k.Bool (local 0) (convert k.Bool (truth the_q)) ∷ []))
    ∷ object (codes "const int x = 1;") 4 (init 0 (int_at (local 0) 1 ∷ []))
    ∷ object (codes "void (*x)(void) = f;") 8 (init 0 (store_pointer (local 0) (func 0) ∷ []))
    ∷ object (codes "char *x = \"ab\";") 8 (init 0 (store_pointer (local 0) (text 1) ∷ []))
    -- arrays and structs: what has no entry is zero
    ∷ object (codes "int x[3] = { 1, 2 };") 12 (init_zeros 0 (int_at (local 0) 1 ∷ int_at (at 4) 2 ∷ []))
    ∷ object (codes "int x[] = { 1, 2, 3, };") 12 (init_zeros 0 (int_at (local 0) 1 ∷ int_at (at 4) 2 ∷ int_at (at 8) 3 ∷ []))
    ∷ object (codes "int x[2][2] = { { 1 }, { 2, 3 } };") 16 (init_zeros 0 (int_at (local 0) 1 ∷ int_at (at 8) 2 ∷ int_at (at 12) 3 ∷ []))
    ∷ object (codes "struct t x = { 1, 2, { 3, 4 } };") 16
    (init_zeros 0 (store k.Char (local 0) (convert k.Char (int 1)) ∷ int_at (at 4) 2 ∷ int_at (at 8) 3 ∷ int_at (at 12) 4 ∷ []))
    ∷ object (codes "struct t x[2] = { { 1 }, { 2, 3, { 4 } } };") 32
    (init_zeros 0 (store k.Char (local 0) (convert k.Char (int 1)) ∷ store k.Char (at 16) (convert k.Char (int 2)) ∷ int_at (at 20) 3 ∷ int_at (at 24) 4 ∷ []))
    ∷ object (codes "union w { int a; char b; } x = { 1 };") 4 (init_zeros 0 (int_at (local 0) 1 ∷ []))
    ∷ object (codes "char *x[2] = { \"a\", 0 };") 16 (init_zeros 0 (store_pointer (local 0) (text 1) ∷ store_pointer (at 8) null ∷ []))
    -- a struct may have the value of another one
    ∷ object (codes "struct t x = *q;") 16 (init 0 (copy (local 0) the_q 16 ∷ []))
    ∷ object (codes "struct t x = (q[1]);") 16 (init 0 (copy (local 0) (forward the_q (int 1) 16) 16 ∷ []))
    -- a string literal gives an array those of its bytes that fit
    ∷ object (codes "char x[] = \"ab\";") 3 (init_zeros 0 (byte (local 0) 97 ∷ byte (at 1) 98 ∷ byte (at 2) 0 ∷ []))
    ∷ object (codes "char x[2] = \"ab\";") 2 (init_zeros 0 (byte (local 0) 97 ∷ byte (at 1) 98 ∷ []))
    ∷ object (codes "char x[5] = \"a\" \"b\";") 5 (init_zeros 0 (byte (local 0) 97 ∷ byte (at 1) 98 ∷ byte (at 2) 0 ∷ []))
    ∷ object (codes "unsigned char x[3] = \"\\377\";") 3 (init_zeros 0 (byte (local 0) 255 ∷ byte (at 1) 0 ∷ []))
    ∷ object (codes "char x[2][3] = { \"a\", { 'b' } };") 6 (init_zeros 0 (byte (local 0) 97 ∷ byte (at 1) 0 ∷ store k.Char (at 3) (convert k.Char (int 98)) ∷ []))
    -- each entry is computed in the order of the text, where the object lives already
    ∷ object (codes "struct t x = { x.n, x.c };") 16
    (init_zeros 0 (store k.Char (local 0) (convert k.Char (load k.Int (at 4))) ∷ store k.Int (at 4) (convert k.Int (load k.Char (at 0))) ∷ []))
    ∷ []
