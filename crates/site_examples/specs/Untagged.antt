-- Functions whose calls are left as they are.
use Rattle.std.specs.Prelude.{ℕ, List, [], ◌∷◌, ◌++◌, codes, None}
use Rattle.alloc_infer.specs.declared.site.Callee.TheVariants.{Malloc}
use Rattle.site_examples.specs.Found.{Row, Taken, has_sites, takes}

abbrev of : List ℕ → List Taken → Row
of text ts = has_sites (codes "void *malloc(unsigned long); " ++ text) ts

abbrev tagged : List ℕ → Row
tagged text = of text (takes Malloc None ∷ [])

abbrev left : List ℕ → Row
left text = of text []

unfoldable pub rows : List Row
rows =
    tagged (codes "void *f(void) { return malloc(4); }")
    ∷ left (codes "__attribute__((no_sanitize(\"alloc-token\"))) void *f(void) { return malloc(4); }")
    ∷ left (codes "__attribute__((__no_sanitize__(\"alloc-token\"))) void *f(void) { return malloc(4); }")
    ∷ left (codes "__attribute__((no_sanitize(\"address\", \"alloc-token\"))) void *f(void) { return malloc(4); }")
    ∷ left (codes "__attribute__((no_sanitize(\"alloc\" \"-token\"))) void *f(void) { return malloc(4); }")
    ∷ left (codes "__attribute__((unused, disable_sanitizer_instrumentation)) void *f(void) { return malloc(4); }")
    ∷ left (codes "void __attribute__((__disable_sanitizer_instrumentation__)) *f(void) { return malloc(4); }")
    ∷ tagged (codes "__attribute__((no_sanitize(\"address\"))) void *f(void) { return malloc(4); }")
    ∷ tagged (codes "__attribute__((no_sanitize)) void *f(void) { return malloc(4); }")
    ∷ tagged (codes "__attribute__((unused)) void *f(void) { return malloc(4); }")
    -- at any declaration of the function
    ∷ left (codes "void *f(void) __attribute__((disable_sanitizer_instrumentation)); void *f(void) { return malloc(4); }")
    ∷ left (codes "void *f(void) { return malloc(4); } __attribute__((disable_sanitizer_instrumentation)) void *f(void);")
    -- of this function alone, or of all that the declaration declares
    ∷ tagged (codes "void *f(void) __attribute__((disable_sanitizer_instrumentation)), *g(void); void *f(void) { return malloc(4); } void *g(void) { return malloc(4); }")
    ∷ left (codes "__attribute__((disable_sanitizer_instrumentation)) void *f(void), *g(void); void *f(void) { return malloc(4); } void *g(void) { return malloc(4); }")
    ∷ tagged (codes "void *f(__attribute__((disable_sanitizer_instrumentation)) int a) { return malloc(4); }")
    ∷ []
