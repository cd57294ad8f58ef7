-- The examples of docs/TOKENS.md.
use Rattle.std.specs.Prelude.{ℕ, Bool, true, false, List, [], ◌∷◌, ◌++◌, codes, Option, Some, None}
use Rattle.site_examples.specs.Found.{Row, has_spellings, has_pointers}

-- behind the prototype of malloc, what each call is for
abbrev unit : List ℕ → List (Option (List ℕ)) → Row
unit text ss = has_spellings (codes "void *malloc(unsigned long); " ++ text) ss

-- one call in a function behind declarations
abbrev within : List ℕ → List ℕ → Option (List ℕ) → Row
within declarations body s = unit (declarations ++ (codes " void f(int n) { " ++ (body ++ codes " }"))) (s ∷ [])

abbrev call : List ℕ → Option (List ℕ) → Row
call body s = within [] body s

-- whether what one call is for contains a pointer
abbrev sort : List ℕ → List ℕ → Bool → Row
sort declarations type is_pointer =
    has_pointers (codes "void *malloc(unsigned long); " ++ (declarations ++ (codes " void f(void) { malloc(sizeof(" ++ (type ++ codes ")); }")))) (Some is_pointer ∷ [])

unfoldable pub rows : List Row
rows =
    -- calls that take a token
    unit (codes "void f(void) { (malloc)(sizeof(int)); }") (Some (codes "int") ∷ [])
    ∷ unit (codes "void f(void) { malloc(malloc(sizeof(int)) == 0); }") (None ∷ Some (codes "int") ∷ [])
    ∷ unit (codes "void f(void) { void *(*g)(unsigned long) = malloc; g(sizeof(int)); }") []
    ∷ has_spellings (codes "void *malloc(unsigned long n) { return 0; } void f(void) { malloc(sizeof(int)); }") []
    ∷ unit (codes "unsigned long f(int malloc) { return sizeof(malloc) + malloc; }") []
    ∷ unit (codes "unsigned long g(void) { return sizeof(malloc(4)); }") []
    ∷ unit (codes "__attribute__((no_sanitize(\"alloc-token\"))) void *f(void) { return malloc(4); }") []
    -- the type that is inferred
    ∷ call (codes "malloc(n * sizeof(long));") (Some (codes "long"))
    ∷ within (codes "struct h { int n; };") (codes "malloc(sizeof(struct h) + 4 * sizeof(int *));") (Some (codes "h"))
    ∷ call (codes "char *p; malloc(sizeof *p);") (Some (codes "char"))
    ∷ call (codes "(int *)malloc(sizeof(long));") (Some (codes "long"))
    ∷ within (codes "struct list { struct list *next; };") (codes "(struct list *)malloc(8);") (Some (codes "list"))
    ∷ call (codes "int *p; p = (void *)malloc(4);") None
    ∷ call (codes "int *p = malloc(4);") (Some (codes "int"))
    ∷ within (codes "void g(char **);") (codes "g(malloc(8));") (Some (codes "char *"))
    ∷ unit (codes "long *f(void) { return malloc(8); }") (Some (codes "long") ∷ [])
    ∷ call (codes "malloc(4);") None
    ∷ call (codes "void *p = malloc(4);") None
    ∷ call (codes "int *p; p = n ? malloc(4) : 0;") None
    ∷ has_spellings (codes "void *calloc(unsigned long, unsigned long); void f(int n) { calloc(n, sizeof(short)); }") (Some (codes "short") ∷ [])
    ∷ has_spellings (codes "void *realloc(void *, unsigned long); void f(int *p) { p = realloc(p, 2 * sizeof(int)); }") (Some (codes "int") ∷ [])
    ∷ call (codes "malloc(sizeof(const char[12]));") (Some (codes "char[12]"))
    ∷ within (codes "typedef struct point { int x, y; } point;") (codes "malloc(sizeof(point));") (Some (codes "point"))
    -- pointer or data
    ∷ sort [] (codes "int") false
    ∷ sort [] (codes "char[12]") false
    ∷ sort (codes "struct b { char name[32]; };") (codes "struct b") false
    ∷ sort [] (codes "int *") true
    ∷ sort (codes "struct list { struct list *next; };") (codes "struct list") true
    ∷ sort (codes "union u { int n; void *p; };") (codes "union u") true
    ∷ sort (codes "struct a { char *names[4]; };") (codes "struct a") true
    ∷ sort (codes "typedef unsigned long uintptr_t;") (codes "uintptr_t") true
    ∷ sort (codes "typedef unsigned long uintptr_t;") (codes "unsigned long") false
    ∷ []
