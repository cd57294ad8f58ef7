-- Units that are not rewritten, and their neighbours that are.
use Rattle.std.specs.Prelude.{ℕ, List, [], ◌∷◌, ◌++◌, codes, Option, Some, None}
use Rattle.token_modes.specs.declared.mode.Mode.TheVariants.{Increment, Random, TypeHash, Split}
use Rattle.token_modes.specs.declared.plan.Plan.{Plan}
use Rattle.tag_rules.specs.Refusals.{Refusal, ReservedName, Stateful}
use Rattle.tag_examples.specs.Found.{RefusalRow}
use Rattle.tag_examples.specs.Plans.{with_2}

abbrev row : Plan → List ℕ → Option Refusal → RefusalRow
row plan text refusal = record { plan = plan; text = text; refusal = refusal }

-- a reserved name, from its first byte to its last
abbrev reserved : List ℕ → ℕ → ℕ → RefusalRow
reserved text start end = row (with_2 Split) text (Some (ReservedName (record { start = start; end = end })))

abbrev rewritten : List ℕ → RefusalRow
rewritten text = row (with_2 Split) text None

abbrev builtin : List ℕ
builtin = codes "unsigned long f(void) { return __builtin_infer_alloc_token(sizeof(int *)); }"

unfoldable pub rows : List RefusalRow
rows =
    reserved (codes "void * __alloc_token_1_calloc ( unsigned long , unsigned long ) ;") 7 29
    -- objects, parameters, typedef names, enumerators, in blocks too; the first of them
    ∷ reserved (codes "int __alloc_token_;") 4 18
    ∷ reserved (codes "int a, *(__alloc_token_b)[2], __alloc_token_c;") 9 24
    ∷ reserved (codes "int f(int a, int __alloc_token_b) { return a; }") 17 32
    ∷ reserved (codes "int f(int (*)(int __alloc_token_b));") 18 33
    ∷ reserved (codes "typedef int __alloc_token_t; int __alloc_token_u;") 12 27
    ∷ reserved (codes "void f(void) { for (int __alloc_token_i = 0; ; ) { int __alloc_token_j; } }") 24 39
    ∷ reserved (codes "enum { a, __alloc_token_b = 2 };") 10 25
    ∷ reserved (codes "struct s { enum { __alloc_token_b } m; int a; } __alloc_token_x;") 18 33
    ∷ reserved (codes "int a = sizeof(int (*)(int __alloc_token_b));") 27 42
    ∷ reserved (codes "int __alloc_token_a(int __alloc_token_b) { return 0; }") 4 19
    -- members and what is in their declarators, tags, other names
    ∷ rewritten (codes "struct s { int __alloc_token_b; int (*f)(int __alloc_token_c); };")
    ∷ rewritten (codes "struct __alloc_token_s { int a; }; enum __alloc_token_e { b };")
    ∷ rewritten (codes "int __alloc_token; int _alloc_token_a; int a__alloc_token_;")
    -- a builtin, where the token goes by a number among the calls
    ∷ row (with_2 Random) builtin (Some (Stateful (record { start = 31; end = 73 })))
    ∷ row (with_2 Increment) builtin (Some (Stateful (record { start = 31; end = 73 })))
    ∷ row (with_2 TypeHash) builtin None
    ∷ row (with_2 Split) builtin None
    ∷ row (with_2 Increment) (codes "unsigned long f(void) { return sizeof __builtin_infer_alloc_token(__builtin_infer_alloc_token(1)) + __builtin_infer_alloc_token(2); }")
    (Some (Stateful (record { start = 38; end = 97 })))
    -- the reserved name comes before it
    ∷ row (with_2 Increment) (builtin ++ codes " int __alloc_token_a;") (Some (ReservedName (record { start = 81; end = 96 })))
    ∷ []
