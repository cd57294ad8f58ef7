-- What the names of a unit are bound to: a row has those of all nodes that are, in the order of the nodes.
use Rattle.std.specs.Prelude.{List, [], ◌∷◌, codes, pos}
use Rattle.rule_examples.specs.Found.{Row, binds}
use Rattle.c_rules.specs.declared.known.Binding.TheVariants as to

unfoldable pub rows : List Row
rows =
    binds (codes "int f(int a, int b); int f(int c, int d) { return c; }") (to.Function 0 ∷ to.Object 0 ∷ to.Object 1 ∷ to.Function 0 ∷ to.Object 2 ∷ to.Object 3 ∷ to.Object 2 ∷ [])
    ∷ binds (codes "void *malloc(unsigned long); void g(void); void f(void) { g(); malloc(1); }") (to.Library 0 ∷ to.Function 1 ∷ to.Function 2 ∷ to.Function 1 ∷ to.Library 0 ∷ [])
    ∷ binds (codes "int f(int *, int b); int c;") (to.Function 0 ∷ to.Object 0 ∷ to.Object 1 ∷ [])
    ∷ binds (codes "extern int x; int x; enum { A } y[sizeof(A)];") (to.Object 0 ∷ to.Object 0 ∷ to.Object 1 ∷ to.Enumerator (pos 0) ∷ [])
    ∷ binds (codes "void *malloc(unsigned long n) { return 0; } void *malloc(unsigned long);") (to.Function 0 ∷ to.Object 0 ∷ to.Function 0 ∷ [])
    ∷ binds (codes "int x; static int y; void f(int x) { y; x; }") (to.Object 0 ∷ to.Object 1 ∷ to.Function 0 ∷ to.Object 2 ∷ to.Object 1 ∷ to.Object 2 ∷ [])
    ∷ binds (codes "void f(int a) { int b; { int a; static int b; } a; b; }") (to.Function 0 ∷ to.Object 0 ∷ to.Object 1 ∷ to.Object 2 ∷ to.Object 3 ∷ to.Object 0 ∷ to.Object 1 ∷ [])
    ∷ binds (codes "void *__alloc_token_malloc(unsigned long, unsigned long);") (to.Function 0 ∷ [])
    ∷ binds (codes "void *malloc(unsigned long), *calloc(unsigned long, unsigned long), *realloc(void *, unsigned long), free(void *); int getchar(void), putchar(int); void *memcpy(void *, const void *, unsigned long), *memmove(void *, const void *, unsigned long);") (to.Library 0 ∷ to.Library 1 ∷ to.Library 2 ∷ to.Library 3 ∷ to.Library 4 ∷ to.Library 5 ∷ to.Library 6 ∷ to.Library 7 ∷ [])
    ∷ binds (codes "void *memset(void *, int, unsigned long); int memcmp(const void *, const void *, unsigned long); unsigned long strlen(const char *); void exit(int), abort(void);") (to.Library 8 ∷ to.Library 9 ∷ to.Library 10 ∷ to.Library 11 ∷ to.Library 12 ∷ [])
    ∷ binds (codes "int f(int a, int (*b)(int), int c); int g(int d) { int e = d; return 0; }") (to.Function 0 ∷ to.Object 0 ∷ to.Object 1 ∷ to.Object 2 ∷ to.Function 1 ∷ to.Object 3 ∷ to.Object 4 ∷ to.Object 3 ∷ [])
    ∷ binds (codes "struct s { int (*f)(int a); int b; } x;") (to.Object 0 ∷ to.Object 1 ∷ [])
    ∷ binds (codes "int f(int a); int f(int b) { int c; f(1); }") (to.Function 0 ∷ to.Object 0 ∷ to.Function 0 ∷ to.Object 1 ∷ to.Object 2 ∷ to.Function 0 ∷ [])
    ∷ binds (codes "int (*g)(int a);") (to.Object 0 ∷ to.Object 1 ∷ [])
    ∷ binds (codes "int a, (*g)(int b), c;") (to.Object 0 ∷ to.Object 1 ∷ to.Object 2 ∷ to.Object 3 ∷ [])
    ∷ binds (codes "int f(int (*g)(int a), int b);") (to.Function 0 ∷ to.Object 0 ∷ to.Object 1 ∷ to.Object 2 ∷ [])
    ∷ binds (codes "int (*a)[sizeof(int (*)(int x))];") (to.Object 0 ∷ to.Object 1 ∷ [])
    ∷ []
