-- Units with what they become.
use Rattle.std.specs.Prelude.{ℕ, List, [], ◌∷◌, ◌++◌, codes}
use Rattle.tok_base.specs.declared.token.Span.{Span}
use Rattle.token_modes.specs.declared.mode.Mode.TheVariants.{Increment, Random, TypeHash, Split}
use Rattle.tag_rules.specs.declared.abi.Abi.TheVariants.{Fast}
use Rattle.tag_examples.specs.Found.{How, Row}
use Rattle.tag_examples.specs.Plans.{with_1, with_2, with_3, with_16, falling_back, standard, fast, random}

abbrev row : How → List ℕ → List ℕ → Row
row how before after = record { how = how; before = before; after = after }

-- ---- of lines

abbrev pub line : List ℕ → List ℕ
line text = text ++ 10 ∷ []

-- void *malloc(unsigned long); and how it is written
abbrev declared_malloc : List ℕ
declared_malloc = codes "void *malloc(unsigned long); "

abbrev malloc_line : List ℕ
malloc_line = line (codes "void * malloc ( unsigned long ) ;")

abbrev entry_line : List ℕ
entry_line = line (codes "void * __alloc_token_malloc ( unsigned long , unsigned long ) ;")

-- a unit with malloc declared, whose sites call its entry point
abbrev with_malloc : How → List ℕ → List ℕ → Row
with_malloc how before after = row how (declared_malloc ++ before) (entry_line ++ malloc_line ++ after)

-- ---- by the number of the site

abbrev three_before : List ℕ
three_before = codes "int main(void) { void *a; a = malloc(1); a = malloc(2); a = malloc(3); return 0; }"

unfoldable pub by_number : List Row
by_number =
    with_malloc (standard (with_2 Increment)) (10 ∷ three_before)
    (line (codes "int main ( void ) { void * a ; a = __alloc_token_malloc ( 1 , 0UL ) ; a = __alloc_token_malloc ( 2 , 1UL ) ; a = __alloc_token_malloc ( 3 , 0UL ) ; return 0 ; }"))
    ∷ with_malloc (random (with_16 Random) (5 ∷ 17 ∷ [])) three_before
    (line (codes "int main ( void ) { void * a ; a = __alloc_token_malloc ( 1 , 5UL ) ; a = __alloc_token_malloc ( 2 , 1UL ) ; a = __alloc_token_malloc ( 3 , 5UL ) ; return 0 ; }"))
    -- a site in an argument of another comes behind it
    ∷ with_malloc (standard (with_3 Increment)) (codes "void f(void) { malloc(*(int *)malloc(1)); malloc(4); }")
    (line (codes "void f ( void ) { __alloc_token_malloc ( * ( int * ) __alloc_token_malloc ( 1 , 1UL ) , 0UL ) ; __alloc_token_malloc ( 4 , 2UL ) ; }"))
    -- the called name in parentheses, initialisers, conditions and loops
    ∷ with_malloc (standard (with_2 Increment)) (codes "void f(void) { int *p = (malloc)(4), *q[] = { malloc(8), ((malloc))(1) }; for (p = malloc(1); malloc(2); ) do malloc(3); while (malloc(4)); }")
    (line (codes "void f ( void ) { int * p = ( __alloc_token_malloc ) ( 4 , 0UL ) , * q [ ] = { __alloc_token_malloc ( 8 , 1UL ) , ( ( __alloc_token_malloc ) ) ( 1 , 0UL ) } ; for ( p = __alloc_token_malloc ( 1 , 1UL ) ; __alloc_token_malloc ( 2 , 0UL ) ; ) do __alloc_token_malloc ( 3 , 1UL ) ; while ( __alloc_token_malloc ( 4 , 0UL ) ) ; }"))
    -- a comment before the closing parenthesis
    ∷ with_malloc (standard (with_2 Increment)) (codes "void f(void) { malloc ( 4 /* four */ ) ; }")
    (line (codes "void f ( void ) { __alloc_token_malloc ( 4 , 0UL ) ; }"))
    ∷ []

-- ---- by the type

unfoldable pub by_type : List Row
by_type =
    with_malloc (standard (with_2 Split)) (codes "void f(void) { malloc(sizeof(int)); malloc(sizeof(int *)); }")
    (line (codes "void f ( void ) { __alloc_token_malloc ( sizeof ( int ) , 0UL ) ; __alloc_token_malloc ( sizeof ( int * ) , 1UL ) ; }"))
    ∷ with_malloc (standard (with_1 Split)) (codes "void f(void) { malloc(sizeof(int)); malloc(sizeof(int *)); }")
    (line (codes "void f ( void ) { __alloc_token_malloc ( sizeof ( int ) , 0UL ) ; __alloc_token_malloc ( sizeof ( int * ) , 0UL ) ; }"))
    -- without a type
    ∷ with_malloc (standard (falling_back Split)) (codes "void f(void) { malloc(4); malloc(sizeof(int)); }")
    (line (codes "void f ( void ) { __alloc_token_malloc ( 4 , 1UL ) ; __alloc_token_malloc ( sizeof ( int ) , 0UL ) ; }"))
    ∷ with_malloc (standard (falling_back TypeHash)) (codes "void f(void) { malloc(4); }")
    (line (codes "void f ( void ) { __alloc_token_malloc ( 4 , 1UL ) ; }"))
    ∷ []

-- ---- the entry points: those that are used, by function and by token

unfoldable pub entry_points : List Row
entry_points =
    row (fast (with_2 Split)) (codes "void *calloc(unsigned long, unsigned long); int **f(void) { return calloc(3, 4); }")
    (line (codes "void * __alloc_token_1_calloc ( unsigned long , unsigned long ) ;")
    ++ line (codes "void * calloc ( unsigned long , unsigned long ) ;")
    ++ line (codes "int * * f ( void ) { return __alloc_token_1_calloc ( 3 , 4 ) ; }"))
    ∷ row (standard (with_2 Increment)) (codes "void *malloc(unsigned long), *realloc(void *, unsigned long), *calloc(unsigned long, unsigned long); void f(void) { realloc(malloc(1), 2); }")
    (entry_line
    ++ line (codes "void * __alloc_token_realloc ( void * , unsigned long , unsigned long ) ;")
    ++ line (codes "void * malloc ( unsigned long ) , * realloc ( void * , unsigned long ) , * calloc ( unsigned long , unsigned long ) ;")
    ++ line (codes "void f ( void ) { __alloc_token_realloc ( __alloc_token_malloc ( 1 , 1UL ) , 2 , 0UL ) ; }"))
    ∷ row (random (with_16 Random) (12 ∷ 3 ∷ 12 ∷ [])) (codes "void *calloc(unsigned long, unsigned long); void f(void) { calloc(1, 1); calloc(2, 2); calloc(3, 3); }")
    (line (codes "void * __alloc_token_calloc ( unsigned long , unsigned long , unsigned long ) ;")
    ++ line (codes "void * calloc ( unsigned long , unsigned long ) ;")
    ++ line (codes "void f ( void ) { __alloc_token_calloc ( 1 , 1 , 12UL ) ; __alloc_token_calloc ( 2 , 2 , 3UL ) ; __alloc_token_calloc ( 3 , 3 , 12UL ) ; }"))
    ∷ row (record (random (with_16 Random) (12 ∷ 3 ∷ 3 ∷ 12 ∷ 10 ∷ [])) { abi = Fast })
    (codes "void *malloc(unsigned long), *realloc(void *, unsigned long); void f(void) { realloc(0, 1); malloc(2); realloc(0, 3); malloc(4); (malloc)(5); realloc(0, 6); }")
    (line (codes "void * __alloc_token_3_malloc ( unsigned long ) ;")
    ++ line (codes "void * __alloc_token_10_malloc ( unsigned long ) ;")
    ++ line (codes "void * __alloc_token_12_malloc ( unsigned long ) ;")
    ++ line (codes "void * __alloc_token_3_realloc ( void * , unsigned long ) ;")
    ++ line (codes "void * __alloc_token_12_realloc ( void * , unsigned long ) ;")
    ++ line (codes "void * malloc ( unsigned long ) , * realloc ( void * , unsigned long ) ;")
    ++ line (codes "void f ( void ) { __alloc_token_12_realloc ( 0 , 1 ) ; __alloc_token_3_malloc ( 2 ) ; __alloc_token_3_realloc ( 0 , 3 ) ; __alloc_token_12_malloc ( 4 ) ; ( __alloc_token_10_malloc ) ( 5 ) ; __alloc_token_12_realloc ( 0 , 6 ) ; }"))
    ∷ []

-- ---- what stays

unfoldable pub unchanged : List Row
unchanged =
    row (standard (with_2 Split)) (declared_malloc ++ codes "unsigned long f(int malloc) { return sizeof(malloc) + malloc; } unsigned long g(void) { return sizeof(malloc(4)); }")
    (malloc_line
    ++ line (codes "unsigned long f ( int malloc ) { return sizeof ( malloc ) + malloc ; }")
    ++ line (codes "unsigned long g ( void ) { return sizeof ( malloc ( 4 ) ) ; }"))
    ∷ row (standard (with_2 Split)) (declared_malloc ++ codes "__attribute__((no_sanitize(\"alloc-token\"))) void *f(void) { return malloc(4); }")
    (malloc_line ++ line (codes "__attribute__ ( ( no_sanitize ( \"alloc-token\" ) ) ) void * f ( void ) { return malloc ( 4 ) ; }"))
    ∷ row (standard (with_2 Split)) (codes "void free(void *); void f(int *p) { free(p); }")
    (line (codes "void free ( void * ) ;") ++ line (codes "void f ( int * p ) { free ( p ) ; }"))
    ∷ row (standard (with_2 Split)) [] []
    ∷ []

-- ---- builtins

unfoldable pub builtins : List Row
builtins =
    row (standard (with_2 Split)) (codes "unsigned long f(void) { return __builtin_infer_alloc_token(sizeof(int *)); }")
    (line (codes "unsigned long f ( void ) { return 1UL ; }"))
    ∷ row (fast (with_2 Split)) (codes "unsigned long f(void) { return __builtin_infer_alloc_token(4, sizeof(int)) + sizeof __builtin_infer_alloc_token(sizeof(int *)); }")
    (line (codes "unsigned long f ( void ) { return 0UL + sizeof 1UL ; }"))
    -- with the builtins and calls in its arguments
    ∷ row (standard (with_2 Split)) (declared_malloc ++ codes "unsigned long f(void) { return __builtin_infer_alloc_token(__builtin_infer_alloc_token(sizeof(int)), malloc(1), sizeof(int *)); }")
    (malloc_line ++ line (codes "unsigned long f ( void ) { return 1UL ; }"))
    ∷ row (standard (falling_back Split)) (codes "unsigned long f(void) { return __builtin_infer_alloc_token(4); }")
    (line (codes "unsigned long f ( void ) { return 1UL ; }"))
    -- in an argument of a site, and in a function whose calls stay
    ∷ with_malloc (standard (with_2 Split)) (codes "void f(void) { malloc(__builtin_infer_alloc_token(sizeof(int *))); }")
    (line (codes "void f ( void ) { __alloc_token_malloc ( 1UL , 0UL ) ; }"))
    ∷ row (standard (with_2 Split)) (declared_malloc ++ codes "__attribute__((disable_sanitizer_instrumentation)) void f(void) { malloc(__builtin_infer_alloc_token(sizeof(int *))); }")
    (malloc_line ++ line (codes "__attribute__ ( ( disable_sanitizer_instrumentation ) ) void f ( void ) { malloc ( 1UL ) ; }"))
    ∷ []

-- ---- where the nodes of what a unit becomes stand, in the order in which they end

abbrev span : ℕ → ℕ → Span
span start end = record { start = start; end = end }

pub record Spans : Type 0 where
  pub how : How
  pub text : List ℕ
  pub spans : List Span

unfoldable pub spans : List Spans
spans =
    -- the entry point's declaration stands nowhere, and the token where its call does
    record {
      how = standard (with_2 Increment);
      text = declared_malloc ++ codes "void f(void) { malloc(1); }";
      spans =
          span 0 0 ∷ span 0 0 ∷ span 0 0 ∷ span 0 0 ∷ span 0 0 ∷ span 0 0 ∷ span 0 0
          ∷ span 6 12 ∷ span 13 26 ∷ span 6 27 ∷ span 5 27 ∷ span 5 27 ∷ span 0 28
          ∷ span 34 35 ∷ span 36 40 ∷ span 34 41 ∷ span 44 50 ∷ span 51 52 ∷ span 44 53 ∷ span 44 53 ∷ span 44 54 ∷ span 42 56 ∷ span 29 56 ∷ [];
    }
    -- a builtin's number where the builtin stood
    ∷ record {
      how = standard (with_2 Split);
      text = codes "int a(void) { return __builtin_infer_alloc_token(4); }";
      spans = span 4 5 ∷ span 6 10 ∷ span 4 11 ∷ span 21 51 ∷ span 14 52 ∷ span 12 54 ∷ span 0 54 ∷ [];
    }
    ∷ []
