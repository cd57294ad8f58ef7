-- Which calls are sites, in which order, and where they stand.
use Rattle.std.specs.Prelude.{List, [], ◌∷◌, codes, Some, None}
use Rattle.num_ops.specs.declared.kinds.IntKind.TheVariants as k
use Rattle.c_types.specs.CTypes.{Void, Int, Pointer}
use Rattle.alloc_infer.specs.declared.site.Callee.TheVariants.{Malloc, Calloc, Realloc}
use Rattle.site_examples.specs.Found.{Row, has_sites, has_places, takes, stands}

unfoldable pub rows : List Row
rows =
    has_sites (codes "void *malloc(unsigned long); void f(void) { (malloc)(4); ((malloc))(4); }") (takes Malloc None ∷ takes Malloc None ∷ [])
    ∷ has_sites (codes "void *malloc(unsigned long), *realloc(void *, unsigned long); void f(void) { realloc(malloc(sizeof(int)), 8); }") (takes Realloc None ∷ takes Malloc (Some (Int k.Int)) ∷ [])
    ∷ has_sites (codes "void *malloc(unsigned long), *calloc(unsigned long, unsigned long); void f(int c) { int *p = malloc(4), *q = calloc(1, 4); for (p = calloc(2, 4); c; p = malloc(8)) if (c) malloc(1); else calloc(1, 1); do malloc(2); while (calloc(3, 3)); }")
    (takes Malloc (Some (Int k.Int)) ∷ takes Calloc (Some (Int k.Int)) ∷ takes Calloc (Some (Int k.Int)) ∷ takes Malloc (Some (Int k.Int)) ∷ takes Malloc None ∷ takes Calloc None ∷ takes Malloc None ∷ takes Calloc None ∷ [])
    -- none in an operand of sizeof, or of another function of the name
    ∷ has_sites (codes "void *malloc(unsigned long); unsigned long f(int malloc) { return sizeof(malloc) + malloc; } unsigned long g(void) { return sizeof(malloc(4)) + sizeof malloc(4); }") []
    ∷ has_sites (codes "void *malloc(unsigned long); void f(void) { malloc(sizeof(malloc(4))); }") (takes Malloc (Some (Pointer Void)) ∷ [])
    ∷ has_sites (codes "void *malloc(unsigned long n) { return 0; } void f(void) { malloc(4); }") []
    ∷ has_sites (codes "void *malloc(unsigned long); void f(void) { malloc(4); } void *malloc(unsigned long n) { return 0; }") []
    ∷ has_sites (codes "void f(void *(*malloc)(unsigned long)) { malloc(4); }") []
    -- none through a value
    ∷ has_sites (codes "void *malloc(unsigned long); void *(*g)(unsigned long) = malloc; void f(void) { g(4); (*malloc)(4); (&malloc)(4); (0, malloc)(4); }") []
    -- none of another function, or in an argument of the builtin
    ∷ has_sites (codes "void free(void *); void *g(unsigned long); void f(void) { free(g(4)); }") []
    ∷ has_sites (codes "void *__alloc_token_malloc(unsigned long, unsigned long); void f(void) { __alloc_token_malloc(4, 0); }") []
    ∷ has_sites (codes "void *malloc(unsigned long); unsigned long f(void) { return __builtin_infer_alloc_token(malloc(4)); }") []
    -- where they stand
    ∷ has_places (codes "void *malloc(unsigned long); void f(void) { malloc(4); ((malloc))(4 + 4 ); }") (stands 44 52 ∷ stands 57 72 ∷ [])
    ∷ []
