-- The functions of a unit and their numbers (ISO/IEC 9899:2018, 6.7.6.3, 6.9.1, 5.1.2.2.1).
use Rattle.std.specs.Prelude.{ℕ, List, [], ◌∷◌, ◌++◌, codes, Some, None}
use Rattle.c_rules.specs.World.{spelled_name}
use Rattle.core_examples.specs.Found.{Row, has_functions, declared}

-- the name of a struct or a union without a tag and a typedef name
abbrev unnamed : ℕ → List ℕ
unnamed n = spelled_name n None None

unfoldable pub rows : List Row
rows =
    has_functions (codes "int main(void) { return 0; }") (declared (codes "main") (codes "int (void)") [] ∷ []) (Some 0)
    ∷ has_functions (codes "int x;") [] None
    -- in the order of their first declarations
    ∷ has_functions (codes "void *malloc(unsigned long); int g(int, char); int main(void) { return 0; }")
    (declared (codes "malloc") (codes "void *(unsigned long)") (8 ∷ []) ∷ declared (codes "g") (codes "int (int, char)") (4 ∷ 1 ∷ []) ∷ declared (codes "main") (codes "int (void)") [] ∷ []) (Some 2)
    ∷ has_functions (codes "int g(void); void f(short a, long b, _Bool c, char *d) { } int g(void) { return 1; } int g(void);")
    (declared (codes "g") (codes "int (void)") [] ∷ declared (codes "f") (codes "void (short, long, _Bool, char *)") (2 ∷ 8 ∷ 1 ∷ 8 ∷ []) ∷ []) None
    -- the entry points behind all others, but for one with a body
    ∷ has_functions (codes "void *__alloc_token_malloc(unsigned long, unsigned long); int main(void) { return 0; } void *__alloc_token_3_malloc(unsigned long); void g(void);")
    (declared (codes "main") (codes "int (void)") [] ∷ declared (codes "g") (codes "void (void)") []
    ∷ declared (codes "__alloc_token_malloc") (codes "void *(unsigned long, unsigned long)") (8 ∷ 8 ∷ []) ∷ declared (codes "__alloc_token_3_malloc") (codes "void *(unsigned long)") (8 ∷ []) ∷ [])
    (Some 0)
    ∷ has_functions (codes "void *__alloc_token_malloc(unsigned long a, unsigned long b) { return 0; } void g(void);")
    (declared (codes "__alloc_token_malloc") (codes "void *(unsigned long, unsigned long)") (8 ∷ 8 ∷ []) ∷ declared (codes "g") (codes "void (void)") [] ∷ []) None
    -- the types as they are spelled, behind typedef names
    ∷ has_functions (codes "struct s; typedef int F(struct s *, const int, int a[2]); F g;") (declared (codes "g") (codes "int (s *, int, int *)") (8 ∷ 4 ∷ 8 ∷ []) ∷ []) None
    ∷ has_functions (codes "enum e { A }; enum e g(enum e, void (*)(int));") (declared (codes "g") (codes "e (e, void (*)(int))") (4 ∷ 8 ∷ []) ∷ []) None
    ∷ has_functions (codes "struct { int a; } *g(void); union { int a; } *(*h(int))(void);")
    (declared (codes "g") (unnamed 0 ++ codes " *(void)") [] ∷ declared (codes "h") (unnamed 1 ++ codes " *(*(int))(void)") (4 ∷ []) ∷ []) None
    ∷ []
