-- The builtins that give a token.
use Rattle.std.specs.Prelude.{List, [], ◌∷◌, codes, Some, None}
use Rattle.num_ops.specs.declared.kinds.IntKind.TheVariants as k
use Rattle.c_types.specs.CTypes.{CType, Int, Pointer}
use Rattle.alloc_infer.specs.declared.site.Callee.TheVariants.{Malloc}
use Rattle.site_examples.specs.Found.{Row, has_sites, has_marks, takes}

abbrev int : CType
int = Int k.Int

unfoldable pub rows : List Row
rows =
    has_marks (codes "unsigned long f(void) { return __builtin_infer_alloc_token(sizeof(int *)); }") (Some (Pointer int) ∷ [])
    ∷ has_marks (codes "unsigned long f(void) { return __builtin_infer_alloc_token(4, sizeof(int)) + __builtin_infer_alloc_token(4); }") (Some int ∷ None ∷ [])
    -- one in an argument of another is none
    ∷ has_marks (codes "unsigned long f(void) { return __builtin_infer_alloc_token(__builtin_infer_alloc_token(sizeof(int)), sizeof(long)); }") (Some (Int k.Long) ∷ [])
    ∷ has_marks (codes "unsigned long f(void) { return __builtin_infer_alloc_token(__builtin_infer_alloc_token(sizeof(int))); }") (None ∷ [])
    -- the cast and the conversion tell nothing
    ∷ has_marks (codes "char f(void) { return (char)__builtin_infer_alloc_token(4); }") (None ∷ [])
    -- in an operand of sizeof, in an argument of a call, in a function that is left as it is
    ∷ has_marks (codes "unsigned long f(void) { return sizeof __builtin_infer_alloc_token(1); }") (None ∷ [])
    ∷ has_marks (codes "void *malloc(unsigned long); void f(void) { malloc(__builtin_infer_alloc_token(sizeof(int))); }") (Some int ∷ [])
    ∷ has_sites (codes "void *malloc(unsigned long); void f(void) { malloc(__builtin_infer_alloc_token(sizeof(int))); }") (takes Malloc None ∷ [])
    ∷ has_marks (codes "__attribute__((disable_sanitizer_instrumentation)) unsigned long f(void) { return __builtin_infer_alloc_token(sizeof(int)); }") (Some int ∷ [])
    ∷ []
