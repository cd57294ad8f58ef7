-- How inferred types are spelled.
use Rattle.std.specs.Prelude.{ℕ, List, [], ◌∷◌, ◌++◌, codes, Option, Some}
use Rattle.site_examples.specs.Found.{Row, has_spellings}

-- functions behind the prototype of malloc
abbrev behind : List ℕ → List (List ℕ) → Row
behind text ss = has_spellings (codes "void *malloc(unsigned long); " ++ text) (spelled ss)
  where
    spelled : List (List ℕ) → List (Option (List ℕ))
    spelled [] = []
    spelled (s ∷ more) = Some s ∷ spelled more

unfoldable pub rows : List Row
rows =
    behind (codes "void f(void) { malloc(sizeof(int)); malloc(sizeof(int *)); }") (codes "int" ∷ codes "int *" ∷ [])
    ∷ behind (codes "struct n { struct n *next; int v; }; void f(void) { malloc(sizeof(struct n)); }") (codes "n" ∷ [])
    ∷ behind (codes "struct h { int n; }; void f(void) { malloc(sizeof(struct h) + 4 * sizeof(int *)); }") (codes "h" ∷ [])
    ∷ behind (codes "typedef unsigned long uintptr_t; struct s { uintptr_t w; }; void f(void) { (struct s *)malloc(100); }") (codes "s" ∷ [])
    ∷ behind (codes "typedef struct point { int x, y; } point; void f(void) { point *p = malloc(sizeof(point)); }") (codes "point" ∷ [])
    ∷ behind (codes "enum e { A }; typedef unsigned long size; void f(void) { malloc(sizeof(enum e)); malloc(sizeof(size)); }") (codes "e" ∷ codes "unsigned long" ∷ [])
    ∷ behind (codes "void f(void) { malloc(sizeof(const char[12])); malloc(sizeof(int (*)[4])); }") (codes "char[12]" ∷ codes "int (*)[4]" ∷ [])
    ∷ has_spellings (codes "void *calloc(unsigned long, unsigned long); int **f(void) { return calloc(3, 4); }") (Some (codes "int *") ∷ [])
    ∷ []
