-- What is told of the sites of a unit, in lines.
use Rattle.std.specs.Prelude.{ℕ, List, [], ◌∷◌, ◌++◌, codes}
use Rattle.token_modes.specs.declared.mode.Mode.TheVariants.{Random, TypeHash, Split}
use Rattle.tag_examples.specs.Found.{How, LineRow}
use Rattle.tag_examples.specs.Plans.{with_1, with_2, with_3, as_clang, falling_back, standard, random}
use Rattle.tag_examples.specs.Units.{line}

-- with malloc declared before the text
abbrev row : How → List ℕ → List ℕ → LineRow
row how text lines = record { how = how; text = codes "void *malloc(unsigned long); " ++ text; lines = lines }

unfoldable pub rows : List LineRow
rows =
    row (standard (with_2 Split)) (codes "void f(void) { malloc(sizeof(int)); malloc(sizeof(int *)); }")
    (line (codes "0 44 malloc 0 d int") ++ line (codes "1 65 malloc 1 p int *"))
    ∷ row (standard (with_1 Split)) (codes "void f(void) { malloc(sizeof(int)); malloc(sizeof(int *)); }")
    (line (codes "0 44 malloc 0 d int") ++ line (codes "1 65 malloc 0 p int *"))
    ∷ row (standard (with_3 Split)) (codes "struct n { struct n *next; int v; }; void f(void) { malloc(sizeof(struct n)); }")
    (line (codes "0 81 malloc 1 p n"))
    ∷ row (standard (with_2 Split)) (codes "struct h { int n; }; void f(void) { malloc(sizeof(struct h) + 4 * sizeof(int *)); }")
    (line (codes "0 65 malloc 0 d h"))
    ∷ row (standard (with_2 Split)) (codes "typedef unsigned long uintptr_t; struct s { uintptr_t w; }; struct s *f(void) { return (struct s *)malloc(100); }")
    (line (codes "0 128 malloc 1 p s"))
    -- without a type; by the canonical type; other names
    ∷ row (standard (falling_back Split)) (codes "void f(void) { malloc(4); }") (line (codes "0 44 malloc 1 - -"))
    ∷ row (standard (with_2 Split)) (codes "typedef unsigned int T; void f(void) { malloc(sizeof(const T)); }") (line (codes "0 68 malloc 0 d unsigned int"))
    ∷ row (random (with_3 Random) (7 ∷ 8 ∷ [])) (codes "void *realloc(void *, unsigned long); int *f(void) { return realloc(malloc(1), 2); }")
    (line (codes "0 89 realloc 1 d int") ++ line (codes "1 97 malloc 2 - -"))
    ∷ row (standard (with_2 Split)) (codes "enum e { a }; void f(void) { malloc(sizeof(enum e)); }") (line (codes "0 58 malloc 0 d e"))
    ∷ row (standard (with_2 Split)) [] []
    -- by the hash
    ∷ row (standard (as_clang TypeHash)) (codes "void f(void) { malloc(sizeof(int)); malloc(sizeof(int *)); malloc(4); }")
    (line (codes "0 44 malloc 2 d int") ++ line (codes "1 65 malloc 12 p int *") ++ line (codes "2 88 malloc 0 - -"))
    ∷ row (standard (as_clang Split)) (codes "void f(void) { malloc(sizeof(int)); malloc(sizeof(int *)); malloc(4); }")
    (line (codes "0 44 malloc 2 d int") ++ line (codes "1 65 malloc 12 p int *") ++ line (codes "2 88 malloc 0 - -"))
    ∷ row (standard (as_clang Split)) (codes "typedef unsigned int T; void f(void) { malloc(sizeof(const T)); malloc(sizeof(void (*)(int))); }")
    (line (codes "0 68 malloc 1 d unsigned int") ++ line (codes "1 93 malloc 11 p void (*)(int)"))
    ∷ row (standard (as_clang Split)) (codes "struct n { struct n *next; int v; }; void f(void) { malloc(sizeof(struct n)); malloc(sizeof(int[3])); }")
    (line (codes "0 81 malloc 13 p n") ++ line (codes "1 107 malloc 5 d int[3]"))
    ∷ []
