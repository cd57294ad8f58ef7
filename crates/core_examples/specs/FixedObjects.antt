-- Objects of static storage duration and string literals (ISO/IEC 9899:2018, 6.2.4, 6.4.5, 6.6, 6.7.9, 6.9.2).
use Rattle.std.specs.Prelude.{ℕ, ◌+◌, List, [], ◌∷◌, ◌++◌, codes, true, false}
use Rattle.c_core.specs.declared.values.Cell.{Cell}
use Rattle.c_core.specs.declared.values.Cell.TheVariants.{Byte, Part}
use Rattle.c_core.specs.declared.values.Pointer.{Pointer}
use Rattle.c_core.specs.declared.values.Pointer.TheVariants.{Object, Function}
use Rattle.c_core.specs.declared.tree.FixedObject.{FixedObject}
use Rattle.core_examples.specs.Found.{Row, has_fixed}

abbrev object : (size : ℕ) → List (ℕ × Cell) → FixedObject
object n cells = record { size = n; read_only = false; defined = true; cells = cells }

abbrev foreign : (size : ℕ) → FixedObject
foreign n = record { size = n; read_only = false; defined = false; cells = [] }

abbrev literal : (size : ℕ) → List (ℕ × Cell) → FixedObject
literal n cells = record { size = n; read_only = true; defined = true; cells = cells }

-- one byte and a zero
abbrev letter : ℕ → FixedObject
letter n = literal 2 ((0, Byte n) ∷ [])

abbrev pub byte : ℕ → ℕ → ℕ × Cell
byte at n = (at, Byte n)

-- a pointer that stands at an offset
abbrev pointer : ℕ → Pointer → List (ℕ × Cell)
pointer at p =
    (at, Part p 0) ∷ (1 + at, Part p 1) ∷ (2 + at, Part p 2) ∷ (3 + at, Part p 3) ∷ (4 + at, Part p 4) ∷ (5 + at, Part p 5) ∷ (6 + at, Part p 6)
    ∷ (7 + at, Part p 7) ∷ []

unfoldable pub rows : List Row
rows =
    -- zero bytes stand for themselves
    has_fixed (codes "int x;") (object 4 [] ∷ [])
    ∷ has_fixed (codes "int x = 258;") (object 4 (byte 0 2 ∷ byte 1 1 ∷ []) ∷ [])
    ∷ has_fixed (codes "int x = -2;") (object 4 (byte 0 254 ∷ byte 1 255 ∷ byte 2 255 ∷ byte 3 255 ∷ []) ∷ [])
    ∷ has_fixed (codes "short x = 65537; long y = 256; char z = 'a'; _Bool b = 7;") (object 2 (byte 0 1 ∷ []) ∷ object 8 (byte 1 1 ∷ []) ∷ object 1 (byte 0 97 ∷ []) ∷ object 1 (byte 0 1 ∷ []) ∷ [])
    ∷ has_fixed (codes "enum { A = 3 } x = A; unsigned long y = sizeof(int);") (object 4 (byte 0 3 ∷ []) ∷ object 8 (byte 0 4 ∷ []) ∷ [])
    -- declared alone, or more than once
    ∷ has_fixed (codes "extern int x; extern char y[3];") (foreign 4 ∷ foreign 3 ∷ [])
    ∷ has_fixed (codes "extern int x; long y; int x = 1; extern int x;") (object 4 (byte 0 1 ∷ []) ∷ object 8 [] ∷ [])
    ∷ has_fixed (codes "int x; int f(int a); int x; int g(void);") (object 4 [] ∷ [])
    -- arrays, structs and unions
    ∷ has_fixed (codes "int a[2][2] = { { 1 }, { 2, 3 } };") (object 16 (byte 0 1 ∷ byte 8 2 ∷ byte 12 3 ∷ []) ∷ [])
    ∷ has_fixed (codes "int a[] = { 1, 0, 2 };") (object 12 (byte 0 1 ∷ byte 8 2 ∷ []) ∷ [])
    ∷ has_fixed (codes "struct s { char c; struct { short a, b; } d; int e; } x = { 1, { 2, 3 }, 4 };") (object 12 (byte 0 1 ∷ byte 2 2 ∷ byte 4 3 ∷ byte 8 4 ∷ []) ∷ [])
    ∷ has_fixed (codes "union u { char c; int n; } x = { 5 }, y[2] = { { 6 }, { 7 } };") (object 4 (byte 0 5 ∷ []) ∷ object 8 (byte 0 6 ∷ byte 4 7 ∷ []) ∷ [])
    -- a string literal gives an array its bytes, or is an object behind the one that points to it
    ∷ has_fixed (codes "char a[] = \"ab\", b[2] = \"cd\", c[4] = \"e\\0f\";") (object 3 (byte 0 97 ∷ byte 1 98 ∷ []) ∷ object 2 (byte 0 99 ∷ byte 1 100 ∷ []) ∷ object 4 (byte 0 101 ∷ byte 2 102 ∷ []) ∷ [])
    ∷ has_fixed (codes "char a[2][3] = { \"x\", \"yz\" };") (object 6 (byte 0 120 ∷ byte 3 121 ∷ byte 4 122 ∷ []) ∷ [])
    ∷ has_fixed (codes "char *p = \"ab\", *q = (\"c\");") (object 8 (pointer 0 (Object 1 0)) ∷ literal 3 (byte 0 97 ∷ byte 1 98 ∷ []) ∷ object 8 (pointer 0 (Object 3 0)) ∷ letter 99 ∷ [])
    ∷ has_fixed (codes "struct { int a; char *b; } x[2] = { { 1, \"x\" }, { 2 } };") (object 32 (byte 0 1 ∷ pointer 8 (Object 1 0) ++ byte 16 2 ∷ []) ∷ letter 120 ∷ [])
    -- addresses; a null pointer is eight zero bytes, and an address is no null as a `_Bool`
    ∷ has_fixed (codes "int x; int *p = &x, *q = 0; void *r = (void *)0;") (object 4 [] ∷ object 8 (pointer 0 (Object 0 0)) ∷ object 8 [] ∷ object 8 [] ∷ [])
    ∷ has_fixed (codes "int a[4]; int *p = &a[2], *q = a + 1, *r[2] = { 0, a };") (object 16 [] ∷ object 8 (pointer 0 (Object 0 8)) ∷ object 8 (pointer 0 (Object 0 4)) ∷ object 16 (pointer 8 (Object 0 0)) ∷ [])
    ∷ has_fixed (codes "struct s { char c; int n[2]; } x; int *p = &x.n[1], *q = (&x)->n;") (object 12 [] ∷ object 8 (pointer 0 (Object 0 8)) ∷ object 8 (pointer 0 (Object 0 4)) ∷ [])
    ∷ has_fixed (codes "_Bool b = &b; struct n { struct n *next; } x = { &x };") (object 1 (byte 0 1 ∷ []) ∷ object 8 (pointer 0 (Object 1 0)) ∷ [])
    -- functions, also of the library; an entry point has a number behind the others
    ∷ has_fixed (codes "int f(void); int g(void); int (*p)(void) = g, (*q)(void) = &f;") (object 8 (pointer 0 (Function 1)) ∷ object 8 (pointer 0 (Function 0)) ∷ [])
    ∷ has_fixed (codes "int g(void); void free(void *); void (*p)(void *) = free, (*q)(void *) = &free;") (object 8 (pointer 0 (Function 1)) ∷ object 8 (pointer 0 (Function 1)) ∷ [])
    ∷ has_fixed (codes "void *__alloc_token_malloc(unsigned long, unsigned long); int g(void); void *(*p)(unsigned long, unsigned long) = __alloc_token_malloc; int (*q)(void) = g;")
    (object 8 (pointer 0 (Function 1)) ∷ object 8 (pointer 0 (Function 0)) ∷ [])
    -- in the order of the text
    ∷ has_fixed (codes "int a; void f(void) { static int b = 1; \"x\"; static char *c = \"y\"; { static short d = 2; } } int e;")
    (object 4 [] ∷ object 4 (byte 0 1 ∷ []) ∷ letter 120 ∷ object 8 (pointer 0 (Object 4 0)) ∷ letter 121 ∷ object 2 (byte 0 2 ∷ []) ∷ object 4 [] ∷ [])
    ∷ has_fixed (codes "void f(void) { for (\"1\"; \"2\"; \"3\") \"4\"; do \"5\"; while (\"6\"); if (\"7\") \"8\"; else \"9\"; }")
    (letter 49 ∷ letter 50 ∷ letter 51 ∷ letter 52 ∷ letter 53 ∷ letter 54 ∷ letter 55 ∷ letter 56 ∷ letter 57 ∷ [])
    ∷ has_fixed (codes "char *g(char *, char *); char *f(void) { char *p = \"1\", a[] = \"2\"; p = \"3\"; return g(\"4\", \"5\")[*\"6\"] ? \"7\" : \"8\"; }")
    (letter 49 ∷ letter 51 ∷ letter 52 ∷ letter 53 ∷ letter 54 ∷ letter 55 ∷ letter 56 ∷ [])
    -- none in an operand of sizeof or of the builtin
    ∷ has_fixed (codes "void f(void) { sizeof \"a\"; sizeof(\"b\"[0]); __builtin_infer_alloc_token(\"c\"); (void)\"d\"; int x[sizeof \"e\"]; }") (letter 100 ∷ [])
    ∷ []
