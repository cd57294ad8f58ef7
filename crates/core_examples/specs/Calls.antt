-- Calls and the builtin (ISO/IEC 9899:2018, 6.5.2.2; Clang's manual on allocation tokens).
use Rattle.std.specs.Prelude.{ℕ, List, [], ◌∷◌, ◌++◌, codes}
use Rattle.num_ops.specs.declared.kinds.IntKind.TheVariants as k
use Rattle.num_ops.specs.declared.arithmetic.Op.TheVariants as op
use Rattle.c_core.specs.declared.tree.LibMark.TheVariants as mark
use Rattle.c_core.specs.Tree as core
use Rattle.c_core.specs.Tree.{Expr}
use Rattle.core_examples.specs.Found.{Row, computes}
use Rattle.core_examples.specs.Wanted.{x, int, null, fixed, func, load, load_pointer, store, store_pointer, convert, arith, call, call_unused, library}

-- of those with a body the last one is f; the entry points have the numbers behind it, 9 and 10
abbrev declarations : List ℕ
declarations = codes "void *malloc(unsigned long), *calloc(unsigned long, unsigned long), *realloc(void *, unsigned long), free(void *); int putchar(int), getchar(void); void *__alloc_token_malloc(unsigned long, unsigned long), *__alloc_token_7_calloc(unsigned long, unsigned long); int g(int, char *); void v(void); int (*h)(char); void *p; int i; char c; void f(void) { "

abbrev becomes : List ℕ → Expr → Row
becomes e wanted = computes (declarations ++ (e ++ codes "; }")) wanted

abbrev the_h : Expr
the_h = load_pointer (fixed 0)

abbrev the_p : Expr
the_p = load_pointer (fixed 1)

abbrev the_i : Expr
the_i = load k.Int (fixed 2)

abbrev the_c : Expr
the_c = convert k.Int (load k.Char (fixed 3))

-- the arguments of g
abbrev g_type : List ℕ
g_type = codes "int (int, char *)"

-- a number as a size
abbrev as_size : ℕ → Expr
as_size n = convert k.ULong (int n)

unfoldable pub rows : List Row
rows =
    -- each argument is converted to its parameter's type
    becomes (codes "i = g(c, 0)") (store k.Int (fixed 2) (call (func 6) g_type (the_c ∷ null ∷ [])))
    ∷ becomes (codes "i = h(i)") (store k.Int (fixed 2) (call the_h (codes "int (char)") (convert k.Char the_i ∷ [])))
    ∷ becomes (codes "i = (*h)(i)") (store k.Int (fixed 2) (call the_h (codes "int (char)") (convert k.Char the_i ∷ [])))
    ∷ becomes (codes "i = (&g)(i, p)") (store k.Int (fixed 2) (call (func 6) g_type (the_i ∷ the_p ∷ [])))
    ∷ becomes (codes "i = (g)(h('a'), 0)") (store k.Int (fixed 2) (call (func 6) g_type (call the_h (codes "int (char)") (convert k.Char (int 97) ∷ []) ∷ null ∷ [])))
    -- whether its value is used
    ∷ becomes (codes "g(i, 0)") (call_unused (func 6) g_type (the_i ∷ null ∷ []))
    ∷ becomes (codes "(g(i, 0))") (call (func 6) g_type (the_i ∷ null ∷ []))
    ∷ becomes (codes "(void)g(i, 0)") (call_unused (func 6) g_type (the_i ∷ null ∷ []))
    ∷ becomes (codes "g(i, 0), i") (x (core.Then (call_unused (func 6) g_type (the_i ∷ null ∷ [])) the_i))
    ∷ becomes (codes "i, g(i, 0)") (x (core.Then the_i (call (func 6) g_type (the_i ∷ null ∷ []))))
    ∷ becomes (codes "v()") (call_unused (func 7) (codes "void (void)") [])
    ∷ becomes (codes "i ? v() : (v)()") (x (core.Choose the_i (call_unused (func 7) (codes "void (void)") []) (call_unused (func 7) (codes "void (void)") [])))
    -- direct calls of library functions, with a token or none
    ∷ becomes (codes "malloc(4)") (library 0 (as_size 4 ∷ []) (mark.Site 0))
    ∷ becomes (codes "((malloc))(i)") (library 0 (convert k.ULong the_i ∷ []) (mark.Site 0))
    ∷ becomes (codes "p = realloc(calloc(1, 2), 3)") (store_pointer (fixed 1) (library 2 (library 1 (as_size 1 ∷ as_size 2 ∷ []) (mark.Site 1) ∷ as_size 3 ∷ []) (mark.Site 0)))
    ∷ becomes (codes "free(p)") (library 3 (the_p ∷ []) mark.Untagged)
    ∷ becomes (codes "free(0)") (library 3 (null ∷ []) mark.Untagged)
    ∷ becomes (codes "putchar(c)") (library 5 (the_c ∷ []) mark.Untagged)
    ∷ becomes (codes "c = getchar()") (store k.Char (fixed 3) (convert k.Char (library 4 [] mark.Untagged)))
    -- by their entry points
    ∷ becomes (codes "__alloc_token_malloc(4, 9)") (library 0 (as_size 4 ∷ as_size 9 ∷ []) mark.Given)
    ∷ becomes (codes "__alloc_token_7_calloc(1, 2)") (library 1 (as_size 1 ∷ as_size 2 ∷ []) (mark.Fixed 7))
    -- and through values
    ∷ becomes (codes "(&malloc)(4)") (call_unused (func 0) (codes "void *(unsigned long)") (as_size 4 ∷ []))
    ∷ becomes (codes "(0, free)(p)") (call_unused (x (core.Then (int 0) (func 3))) (codes "void (void *)") (the_p ∷ []))
    ∷ becomes (codes "(*__alloc_token_malloc)(1, 2)") (call_unused (func 9) (codes "void *(unsigned long, unsigned long)") (as_size 1 ∷ as_size 2 ∷ []))
    ∷ becomes (codes "__alloc_token_7_calloc") (func 10)
    -- in a function that is left as it is, and in an operand that isn't evaluated
    ∷ computes (codes "void *malloc(unsigned long); __attribute__((no_sanitize(\"alloc-token\"))) void f(void) { malloc(4); }") (library 0 (as_size 4 ∷ []) mark.Untagged)
    ∷ computes (codes "void *malloc(unsigned long); void f(void) { malloc(1); sizeof(malloc(2)); malloc(3); }") (library 0 (as_size 3 ∷ []) (mark.Site 1))
    -- a function of the name with a body is none of the library's
    ∷ computes (codes "void *malloc(unsigned long n) { return 0; } void f(void) { malloc(4); }") (call_unused (func 0) (codes "void *(unsigned long)") (as_size 4 ∷ []))
    -- the builtin
    ∷ becomes (codes "__builtin_infer_alloc_token(sizeof(int))") (x (core.Mark 0))
    ∷ becomes (codes "i = __builtin_infer_alloc_token(__builtin_infer_alloc_token(malloc(4))) + __builtin_infer_alloc_token(1)")
    (store k.Int (fixed 2) (convert k.Int (arith op.Add (x (core.Mark 0)) (x (core.Mark 1)))))
    ∷ []
