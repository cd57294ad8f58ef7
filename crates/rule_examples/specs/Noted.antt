-- What is known of the nodes of a unit, and of its objects, functions, structs, unions and enumerations.
use Rattle.std.specs.Prelude.{ℕ, true, false, List, [], ◌∷◌, codes, Some, None, pos, negsuc}
use Rattle.num_ops.specs.declared.kinds.IntKind.TheVariants as k
use Rattle.c_types.specs.CTypes.{CType, Void, Int, Pointer, Array, Function, Named, Qualified, no_types, one_type}
use Rattle.c_rules.specs.World.{ObjectOf, FunctionOf, spelled_name}
use Rattle.rule_examples.specs.Found.{Row, has_types, has_targets, has_constants, has_objects, has_functions, has_names, typed, valued}
use Rattle.c_rules.specs.declared.known.Binding.TheVariants as to
use Rattle.c_rules.specs.declared.known.ConstantValue.TheVariants as val

abbrev int : CType
int = Int k.Int

abbrev size : CType
size = Int k.ULong

-- a function of one parameter
abbrev of : CType → CType → CType
of p r = Function r (one_type p no_types)

-- a parameter or an automatic object
abbrev local : CType → ℕ → ObjectOf
local t n = record { type = t; local = Some n; is_defined = true }

abbrev static : CType → ObjectOf
static t = record { type = t; local = None; is_defined = true }

-- an object that another unit defines
abbrev foreign : CType → ObjectOf
foreign t = record { type = t; local = None; is_defined = false }

abbrev with_body : List ℕ → CType → FunctionOf
with_body n t = record { name = n; type = t; has_body = true }

abbrev without_body : List ℕ → CType → FunctionOf
without_body n t = record { name = n; type = t; has_body = false }

-- the name of a struct, a union or an enumeration without a tag and a typedef name
abbrev unnamed : ℕ → List ℕ
unnamed n = spelled_name n None None

-- the first 10 have types, then targets, constants, objects, functions and names
unfoldable pub rows : List Row
rows =
    has_types (codes "int x = sizeof(int);") (typed 0 int ∷ typed 1 int ∷ typed 2 size ∷ [])
    ∷ has_types (codes "int *(a), *b;") (typed 0 (Pointer int) ∷ typed 4 (Pointer int) ∷ [])
    ∷ has_types (codes "int f(int a[2]);") (typed 0 (of (Pointer int) int) ∷ typed 1 (Pointer int) ∷ typed 2 int ∷ [])
    ∷ has_types (codes "typedef int T(int a);") (typed 0 (of int int) ∷ typed 1 int ∷ [])
    ∷ has_types (codes "int x = sizeof(int *);")
    (typed 0 int ∷ typed 1 (Pointer int) ∷ typed 3 (Pointer int) ∷ typed 4 size ∷ [])
    ∷ has_types (codes "void g(int *, long);")
    (typed 0 (Function Void (one_type (Pointer int) (one_type (Int k.Long) no_types))) ∷ typed 1 (Pointer int) ∷ [])
    ∷ has_types (codes "int a[] = { 1 };") (typed 0 (Array int 1) ∷ typed 2 int ∷ [])
    ∷ has_types (codes "long x; void f(void) { (char)x; }")
    (typed 0 (Int k.Long) ∷ typed 3 (Function Void no_types) ∷ typed 6 (Int k.Char) ∷ typed 7 (Int k.Long) ∷ typed 8 (Int k.Char) ∷ [])
    ∷ has_types (codes "int a[2][3]; void f(void) { a[0]; }")
    (typed 0 (Array (Array int 3) 2) ∷ typed 1 int ∷ typed 3 int ∷ typed 7 (Function Void no_types)
    ∷ typed 10 (Array (Array int 3) 2) ∷ typed 11 int ∷ typed 12 (Array int 3) ∷ [])
    ∷ has_types (codes "char *p = \"a\" \"bc\";") (typed 0 (Pointer (Int k.Char)) ∷ typed 2 (Array (Int k.Char) 4) ∷ [])
    ∷ has_targets (codes "int x = 1;") (typed 1 int ∷ [])
    ∷ has_targets (codes "const int x = 1;") (typed 1 (Qualified 1 int) ∷ [])
    ∷ has_targets (codes "int f(const int a); int x; void g(void) { f(x); }") (typed 13 (Qualified 1 int) ∷ [])
    ∷ has_targets (codes "const int x = { 1 };") (typed 1 (Qualified 1 int) ∷ [])
    ∷ has_targets (codes "typedef int *P; P x = { 0 };") (typed 5 (Named (codes "P") (Pointer int)) ∷ [])
    ∷ has_targets (codes "char a[] = \"ab\"; char *p = \"ab\";") (typed 7 (Pointer (Int k.Char)) ∷ [])
    ∷ has_targets (codes "int *f(void) { return 0; }") (typed 4 (Pointer int) ∷ [])
    ∷ has_targets (codes "int *p; void f(long a) { p = 0; a += 1; }") (typed 9 (Pointer int) ∷ [])
    ∷ has_constants (codes "int x = 1 + 2;") (valued 1 (val.Number (pos 1)) ∷ valued 2 (val.Number (pos 2)) ∷ valued 3 (val.Number (pos 3)) ∷ [])
    ∷ has_constants (codes "void f(void) { int x = 1 + 2; }") (valued 4 (val.Number (pos 1)) ∷ valued 5 (val.Number (pos 2)) ∷ [])
    ∷ has_constants (codes "void f(void) { static int x = -1; }") (valued 4 (val.Number (pos 1)) ∷ valued 5 (val.Number (negsuc 0)) ∷ [])
    ∷ has_constants (codes "void f(void) { 'a'; '\\377'; 0x10; }")
    (valued 3 (val.Number (pos 97)) ∷ valued 5 (val.Number (negsuc 0)) ∷ valued 7 (val.Number (pos 16)) ∷ [])
    ∷ has_constants (codes "int *p = 0;") (valued 2 (val.Number (pos 0)) ∷ [])
    ∷ has_constants (codes "void *p = (void *)0;") (valued 5 (val.Number (pos 0)) ∷ valued 6 val.Null ∷ [])
    ∷ has_constants (codes "int f(void); int (*g)(void) = f;") (valued 10 (val.Function (to.Function 0)) ∷ [])
    ∷ has_constants (codes "void free(void *); void (*g)(void *) = &free;") (valued 15 (val.Function (to.Library 3)) ∷ [])
    ∷ has_constants (codes "struct s { int a; int b[3]; } x; int *p = &x.b[1];")
    (valued 3 (val.Number (pos 3)) ∷ valued 14 (val.Number (pos 1)) ∷ valued 16 (val.Object 0 (pos 8)) ∷ [])
    ∷ has_constants (codes "char *p = \"ab\";") (valued 2 (val.Text 2) ∷ [])
    ∷ has_constants (codes "char *p = (\"ab\");") (valued 3 (val.Text 2) ∷ [])
    ∷ has_constants (codes "char a[] = \"ab\";") []
    ∷ has_constants (codes "char *a[2] = { \"x\", 0 };") (valued 1 (val.Number (pos 2)) ∷ valued 4 (val.Text 4) ∷ valued 5 (val.Number (pos 0)) ∷ [])
    ∷ has_constants (codes "_Bool b = &b;") (valued 2 (val.Object 0 (pos 0)) ∷ [])
    ∷ has_objects (codes "int a[] = { 1, 2 };") (static (Array int 2) ∷ [])
    ∷ has_objects (codes "char s[] = \"ab\";") (static (Array (Int k.Char) 3) ∷ [])
    ∷ has_objects (codes "extern int x; void f(int a, int b) { static int c; int d; { int e; } }")
    (foreign int ∷ local int 0 ∷ local int 1 ∷ static int ∷ local int 2 ∷ local int 3 ∷ [])
    ∷ has_objects (codes "void f(void) { int (*g)(int a); int b; }") (local (Pointer (of int int)) 0 ∷ local int 0 ∷ local int 1 ∷ [])
    ∷ has_objects (codes "int f(int *, int b) { for (int i = 0; i; ) ; return b; }") (local int 1 ∷ local int 2 ∷ [])
    ∷ has_objects (codes "void f(int a) { int b; } void g(void) { int c; }") (local int 0 ∷ local int 1 ∷ local int 0 ∷ [])
    ∷ has_objects (codes "extern int x; int f(int a[2]) { return x; } int x;") (static int ∷ local (Pointer int) 0 ∷ [])
    ∷ has_functions (codes "void *malloc(unsigned long); int f(void) { return 0; }")
    (without_body (codes "malloc") (of size (Pointer Void)) ∷ with_body (codes "f") (Function int no_types) ∷ [])
    ∷ has_functions (codes "int f(int); int f(int x) { return x; }") (with_body (codes "f") (of int int) ∷ [])
    ∷ has_functions (codes "typedef int T; T f(T); int f(int);")
    (without_body (codes "f") (of (Named (codes "T") int) (Named (codes "T") int)) ∷ [])
    ∷ has_names (codes "struct s { int a; }; typedef struct { int a; } T; struct { int b; } x; enum { A };")
    (codes "s" ∷ codes "T" ∷ unnamed 0 ∷ unnamed 1 ∷ [])
    ∷ []
