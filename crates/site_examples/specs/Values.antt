-- Types that are inferred from what the value of a call becomes.
use Rattle.std.specs.Prelude.{ℕ, List, [], ◌∷◌, ◌++◌, codes, Option, Some, None}
use Rattle.num_ops.specs.declared.kinds.IntKind.TheVariants as k
use Rattle.c_types.specs.CTypes.{CType, Int, Enum, Pointer, Array, Flexible, Record, Named, Qualified}
use Rattle.alloc_infer.specs.declared.site.Callee.TheVariants.{Malloc, Calloc, Realloc}
use Rattle.site_examples.specs.Found.{Row, has_sites, takes}

abbrev int : CType
int = Int k.Int

-- one call of malloc in a function behind declarations
abbrev one : List ℕ → List ℕ → Option CType → Row
one declarations body t =
    has_sites (codes "void *malloc(unsigned long); " ++ (declarations ++ (codes " void f(int *p, int c) { " ++ (body ++ codes " }")))) (takes Malloc t ∷ [])

abbrev plain : List ℕ → Option CType → Row
plain body t = one [] body t

unfoldable pub rows : List Row
rows =
    -- a cast decides
    plain (codes "(int *)malloc(4);") (Some int)
    ∷ plain (codes "(int *)((malloc(4)));") (Some int)
    ∷ plain (codes "(int *)malloc(sizeof(long));") (Some (Int k.Long))
    ∷ plain (codes "(const int *)malloc(4);") (Some (Qualified 1 int))
    ∷ plain (codes "(int (*)[3])malloc(12);") (Some (Array int 3))
    ∷ plain (codes "(int **)malloc(8);") (Some (Pointer int))
    ∷ plain (codes "(void *)malloc(4);") None
    ∷ plain (codes "(void)malloc(4);") None
    ∷ plain (codes "(_Bool)malloc(4);") None
    ∷ plain (codes "p = (void *)malloc(4);") None
    ∷ plain (codes "p = (int *)(void *)malloc(4);") None
    ∷ one (codes "typedef int *P;") (codes "(P)malloc(4);") (Some int)
    ∷ one (codes "struct s;") (codes "(struct s *)malloc(4);") None
    ∷ has_sites (codes "void *malloc(unsigned long); struct s; void f(void) { (struct s *)malloc(4); } struct s { int a; };") (takes Malloc (Some (Record 0)) ∷ [])
    ∷ one (codes "typedef unsigned long uintptr_t; struct s { uintptr_t w; };") (codes "(struct s *)malloc(100);") (Some (Record 0))
    -- what it is converted to
    ∷ plain (codes "int *q = malloc(4);") (Some int)
    ∷ plain (codes "int *q = (malloc(4));") (Some int)
    ∷ plain (codes "int *a[2] = { 0, malloc(4) };") (Some int)
    ∷ plain (codes "int *q = { malloc(4) };") (Some int)
    ∷ plain (codes "p = malloc(4);") (Some int)
    ∷ plain (codes "p = ((malloc(4)));") (Some int)
    ∷ plain (codes "int (*q)[] = malloc(4);") (Some (Flexible int))
    ∷ plain (codes "enum e *q = malloc(4);") (Some (Enum 0))
    ∷ plain (codes "void *q = malloc(4);") None
    ∷ plain (codes "struct s *q = malloc(4);") None
    ∷ plain (codes "_Bool b = malloc(4);") None
    ∷ one (codes "typedef int *P;") (codes "P q = malloc(4);") (Some int)
    ∷ one (codes "typedef int T;") (codes "T *q = malloc(4);") (Some (Named (codes "T") int))
    ∷ one (codes "struct s { int *q; };") (codes "struct s x = { malloc(4) };") (Some int)
    ∷ one (codes "void g(int, long *);") (codes "g(1, malloc(4));") (Some (Int k.Long))
    ∷ has_sites (codes "void *calloc(unsigned long, unsigned long); int **f(void) { return calloc(3, 4); }") (takes Calloc (Some (Pointer int)) ∷ [])
    ∷ has_sites (codes "void *malloc(unsigned long); int *f(void) { return (malloc(4)); } void *g(void) { return malloc(4); }") (takes Malloc (Some int) ∷ takes Malloc None ∷ [])
    ∷ has_sites (codes "void *realloc(void *, unsigned long); void f(int *p) { p = realloc(p, 8); }") (takes Realloc (Some int) ∷ [])
    -- nothing
    ∷ plain (codes "malloc(4);") None
    ∷ plain (codes "if (malloc(4)) ;") None
    ∷ plain (codes "p = (c, malloc(4));") None
    ∷ plain (codes "p = c ? malloc(4) : 0;") None
    ∷ plain (codes "c = malloc(4) == p;") None
    ∷ plain (codes "c = !malloc(4);") None
    ∷ []
