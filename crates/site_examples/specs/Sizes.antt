-- Types that are inferred from a `sizeof` in the arguments.
use Rattle.std.specs.Prelude.{ℕ, true, false, List, [], ◌∷◌, ◌++◌, codes, Option, Some, None}
use Rattle.num_ops.specs.declared.kinds.IntKind.TheVariants as k
use Rattle.c_types.specs.CTypes.{CType, Int, Pointer, Array, Record, Named}
use Rattle.alloc_infer.specs.declared.site.Callee.TheVariants.{Malloc, Calloc, Realloc}
use Rattle.site_examples.specs.Found.{Row, has_sites, has_pointers, takes}

abbrev int : CType
int = Int k.Int

abbrev long : CType
long = Int k.Long

-- one call of malloc in a function behind declarations
abbrev one : List ℕ → List ℕ → Option CType → Row
one declarations argument t =
    has_sites (declarations ++ (codes " void *malloc(unsigned long); void f(int *p) { malloc(" ++ (argument ++ codes "); }"))) (takes Malloc t ∷ [])

abbrev plain : List ℕ → Option CType → Row
plain argument t = one [] argument t

-- whether the type of the argument's `sizeof` contains a pointer
abbrev pointer : List ℕ → List ℕ → Row
pointer declarations argument =
    has_pointers (declarations ++ (codes " void *malloc(unsigned long); void f(void) { malloc(" ++ (argument ++ codes "); }"))) (Some true ∷ [])

abbrev no_pointer : List ℕ → List ℕ → Row
no_pointer declarations argument =
    has_pointers (declarations ++ (codes " void *malloc(unsigned long); void f(void) { malloc(" ++ (argument ++ codes "); }"))) (Some false ∷ [])

unfoldable pub rows : List Row
rows =
    plain (codes "sizeof(int)") (Some int)
    ∷ plain (codes "sizeof *p") (Some int)
    ∷ plain (codes "sizeof p") (Some (Pointer int))
    ∷ plain (codes "sizeof(p)") (Some (Pointer int))
    -- on either side of an operator, the left side first
    ∷ plain (codes "3 * sizeof(int)") (Some int)
    ∷ plain (codes "sizeof(int) * 3") (Some int)
    ∷ plain (codes "sizeof(int) + 4 * sizeof(int *)") (Some int)
    ∷ plain (codes "4 * sizeof(int *) + sizeof(int)") (Some (Pointer int))
    ∷ plain (codes "1 + (2 + sizeof(int))") (Some int)
    ∷ plain (codes "100 - sizeof(int)") (Some int)
    ∷ plain (codes "sizeof(int) / 2") (Some int)
    ∷ plain (codes "sizeof(int) << 1") (Some int)
    ∷ plain (codes "1 << sizeof(int)") (Some int)
    ∷ plain (codes "sizeof(int) >> 1") (Some int)
    ∷ plain (codes "((sizeof(int)))") (Some int)
    -- not through other forms
    ∷ plain (codes "sizeof(int) % 8") None
    ∷ plain (codes "sizeof(int) | 1") None
    ∷ plain (codes "sizeof(int) == 1") None
    ∷ plain (codes "(unsigned long)sizeof(int)") None
    ∷ plain (codes "-sizeof(int)") None
    ∷ plain (codes "+sizeof(int)") None
    ∷ plain (codes "(1, sizeof(int))") None
    ∷ plain (codes "1 ? sizeof(int) : 2") None
    ∷ plain (codes "8") None
    ∷ plain (codes "p[sizeof(int)]") None
    -- typedef names, arrays and records, as written
    ∷ one (codes "typedef int T;") (codes "sizeof(T)") (Some (Named (codes "T") int))
    ∷ plain (codes "sizeof(int[4])") (Some (Array int 4))
    ∷ one (codes "struct s { int a; };") (codes "2 * sizeof(struct s)") (Some (Record 0))
    ∷ one (codes "struct s { int a; }; struct n { struct n *next; };") (codes "sizeof(struct n)") (Some (Record 1))
    ∷ pointer (codes "") (codes "sizeof(int *)")
    ∷ pointer (codes "") (codes "sizeof(int *[3])")
    ∷ pointer (codes "struct n { struct n *next; int v; };") (codes "sizeof(struct n)")
    ∷ pointer (codes "typedef unsigned long uintptr_t;") (codes "sizeof(uintptr_t)")
    ∷ pointer (codes "typedef unsigned long uintptr_t; typedef uintptr_t U;") (codes "sizeof(U)")
    ∷ pointer (codes "typedef unsigned long uintptr_t; struct s { int a; uintptr_t w[2]; };") (codes "sizeof(struct s)")
    ∷ no_pointer (codes "typedef unsigned long U;") (codes "sizeof(U)")
    ∷ no_pointer (codes "struct s { int a; };") (codes "sizeof(struct s)")
    ∷ no_pointer (codes "") (codes "sizeof(int) + sizeof(int *)")
    -- calloc and realloc: the arguments in order
    ∷ has_sites (codes "void *calloc(unsigned long, unsigned long); void f(void) { calloc(3, sizeof(int)); calloc(sizeof(int), 3); calloc(sizeof(int), sizeof(long)); calloc(3, 4); }")
    (takes Calloc (Some int) ∷ takes Calloc (Some int) ∷ takes Calloc (Some int) ∷ takes Calloc None ∷ [])
    ∷ has_sites (codes "void *realloc(void *, unsigned long); void f(int *p) { realloc(p, sizeof(long)); realloc(p, 8); }")
    (takes Realloc (Some long) ∷ takes Realloc None ∷ [])
    ∷ []
