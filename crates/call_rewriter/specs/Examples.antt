-- Small units, each with its text and the text with its sites tagged, with two tokens.
use Rattle.std.specs.Prelude.{◌≡◌, ℕ, codes, ◌++◌, List, [], ◌∷◌, Some, None, false}
use Rattle.std.specs.List.{join_by}
use Rattle.c_tree.specs.Tok as t
use Rattle.c_tree.specs.Tree as u
use Rattle.c_tree.specs.Tree.{Expr, Exprs, Specs, Declarator, MaybeInit, Item, Declaration, External, Stmt, BlockItems, Params}
use Rattle.c_tree.specs.Reading.{spelled}
use Rattle.c_tree.specs.Printed.{unit_text}
use Rattle.call_rewriter.specs.Tagged.{size_then, tagged}

-- what the unit spells, with one space between two tokens
abbrev pub text_of : List External → List ℕ
text_of u = join_by (λ l. l.text) (32 ∷ []) (spelled u)

-- its text is before, and with its sites tagged it is after
abbrev pub Becomes : List External → List ℕ → List ℕ → Type 0
Becomes u before after = (text_of u ≡ before) × (text_of (tagged 2 u) ≡ after)

-- no site is found in it
abbrev pub Stays : List External → List ℕ → Type 0
Stays u text = (text_of u ≡ text) × (tagged 2 u ≡ u)

-- ---- parts

abbrev pub int : Specs
int = u.Keyword t.KInt u.no_specs

abbrev pub void : Specs
void = u.Keyword t.KVoid u.no_specs

abbrev pub named : List ℕ → Declarator
named n = u.Declared (Some n)

abbrev pub declaration : Specs → Declarator → MaybeInit → Declaration
declaration ss d i = record { specs = ss; items = record { declarator = d; attributes = []; init = i } ∷ [] }

abbrev pub declares : Specs → Declarator → External
declares ss d = u.Declares (declaration ss d u.no_init)

abbrev pub number : List ℕ → Expr
number n = u.Number n

abbrev pub call : Expr → Expr → Expr
call f a = u.Call f (u.expr a u.no_exprs)

abbrev pub malloc_of : Expr → Expr
malloc_of = call (u.Name (codes "malloc"))

-- malloc(1)
abbrev pub malloc : Expr
malloc = malloc_of (number (codes "1"))

-- void *malloc(unsigned long);
abbrev pub malloc_function : Declarator → Declarator
malloc_function d = u.PointerTo [] (u.FunctionOf d (size_then u.no_params))

abbrev pub prototype : External
prototype = declares void (malloc_function (named (codes "malloc")))

abbrev pub function : Params → BlockItems → External
function ps is = u.Definition int (u.FunctionOf (named (codes "f")) ps) is

abbrev pub returns : Expr → BlockItems
returns a = u.statement (u.Return (u.some_expr a)) u.no_items

-- int f() { return a; } behind the prototype of malloc
abbrev pub returning : Expr → List External
returning a = prototype ∷ function u.no_params (returns a) ∷ []

-- int f() { return malloc(1); } behind another declaration
abbrev pub behind : External → List External
behind x = x ∷ function u.no_params (returns malloc) ∷ []

-- ---- where a call stands

unfoldable pub in_sizeof : List External
in_sizeof = returning (u.SizeofExpr malloc)

unfoldable pub in_builtin : List External
in_builtin = returning (u.Builtin (u.expr malloc u.no_exprs))

unfoldable pub nested : List External
nested = returning (malloc_of malloc)

unfoldable pub through_pointer : List External
through_pointer = returning (call (u.Paren (u.Prefix u.Deref (u.Name (codes "f")))) (number (codes "1")))

unfoldable pub in_parens : List External
in_parens = returning (call (u.Paren (u.Name (codes "malloc"))) (number (codes "1")))

unfoldable pub in_initialiser : List External
in_initialiser = prototype ∷ u.Declares (declaration int (named (codes "a")) (u.some_init (u.Plain malloc))) ∷ []

unfoldable pub in_length : List External
in_length = prototype ∷ declares int (u.ArrayOf (named (codes "a")) (u.some_expr malloc)) ∷ []

unfoldable pub in_for : List External
in_for =
    prototype
    ∷ function u.no_params (u.statement (u.For (u.FirstDeclaration (declaration int (named (codes "a")) (u.some_init (u.Plain malloc)))) (u.some_expr malloc) (u.some_expr malloc) (u.ExprStmt u.no_expr)) u.no_items)
    ∷ []

abbrev pub Calls : Type 0
Calls =
    Stays in_sizeof (codes "void * malloc ( unsigned long ) ; int f ( ) { return sizeof malloc ( 1 ) ; }")
    × Stays in_builtin (codes "void * malloc ( unsigned long ) ; int f ( ) { return __builtin_infer_alloc_token ( malloc ( 1 ) ) ; }")
    × Stays through_pointer (codes "void * malloc ( unsigned long ) ; int f ( ) { return ( * f ) ( 1 ) ; }")
    × Becomes in_parens (codes "void * malloc ( unsigned long ) ; int f ( ) { return ( malloc ) ( 1 ) ; }")
    (codes "void * __alloc_token_malloc ( unsigned long , unsigned long ) ; void * malloc ( unsigned long ) ; int f ( ) { return ( __alloc_token_malloc ) ( 1 , 0UL ) ; }")
    × Becomes nested (codes "void * malloc ( unsigned long ) ; int f ( ) { return malloc ( malloc ( 1 ) ) ; }")
    (codes "void * __alloc_token_malloc ( unsigned long , unsigned long ) ; void * malloc ( unsigned long ) ; int f ( ) { return __alloc_token_malloc ( __alloc_token_malloc ( 1 , 1UL ) , 0UL ) ; }")
    × Becomes in_initialiser (codes "void * malloc ( unsigned long ) ; int a = malloc ( 1 ) ;")
    (codes "void * __alloc_token_malloc ( unsigned long , unsigned long ) ; void * malloc ( unsigned long ) ; int a = __alloc_token_malloc ( 1 , 0UL ) ;")
    × Becomes in_length (codes "void * malloc ( unsigned long ) ; int a [ malloc ( 1 ) ] ;")
    (codes "void * __alloc_token_malloc ( unsigned long , unsigned long ) ; void * malloc ( unsigned long ) ; int a [ __alloc_token_malloc ( 1 , 0UL ) ] ;")
    × Becomes in_for (codes "void * malloc ( unsigned long ) ; int f ( ) { for ( int a = malloc ( 1 ) ; malloc ( 1 ) ; malloc ( 1 ) ) ; }")
    (codes "void * __alloc_token_malloc ( unsigned long , unsigned long ) ; void * malloc ( unsigned long ) ; int f ( ) { for ( int a = __alloc_token_malloc ( 1 , 0UL ) ; __alloc_token_malloc ( 1 , 1UL ) ; __alloc_token_malloc ( 1 , 0UL ) ) ; }")

-- ---- what hides the function

unfoldable pub parameter : List External
parameter = prototype ∷ function (u.Param int (u.some_declarator (named (codes "malloc"))) u.no_params) (returns malloc) ∷ []

unfoldable pub local : List External
local = prototype ∷ function u.no_params (u.declared (declaration int (named (codes "malloc")) u.no_init) (returns malloc)) ∷ []

unfoldable pub enumerator : List External
enumerator = behind (u.Declares (record { specs = u.Enum None (u.list (u.Enumerator (codes "malloc") u.no_expr u.no_enumerators) false) u.no_specs; items = [] }))

unfoldable pub enumerator_in_record : List External
enumerator_in_record =
    behind (u.Declares (record {
      specs = u.Record false None (u.body (u.Field (u.Enum None (u.list (u.Enumerator (codes "malloc") u.no_expr u.no_enumerators) false) u.no_specs)
          (u.declarator (named (codes "a")) u.no_declarators) u.no_fields)) u.no_specs;
      items = [];
    }))

unfoldable pub variable : List External
variable = behind (declares int (named (codes "malloc")))

unfoldable pub type_name : List External
type_name = function u.no_params (returns malloc) ∷ declares (u.Keyword t.KTypedef int) (named (codes "malloc")) ∷ []

unfoldable pub body : List External
body = behind (u.Definition void (malloc_function (named (codes "malloc"))) u.no_items)

unfoldable pub reserved : List External
reserved = prototype ∷ behind (declares int (named (codes "__alloc_token_x")))

abbrev pub Hidden : Type 0
Hidden =
    Stays parameter (codes "void * malloc ( unsigned long ) ; int f ( int malloc ) { return malloc ( 1 ) ; }")
    × Stays local (codes "void * malloc ( unsigned long ) ; int f ( ) { int malloc ; return malloc ( 1 ) ; }")
    × Stays enumerator (codes "enum { malloc } ; int f ( ) { return malloc ( 1 ) ; }")
    × Stays enumerator_in_record (codes "struct { enum { malloc } a ; } ; int f ( ) { return malloc ( 1 ) ; }")
    × Stays variable (codes "int malloc ; int f ( ) { return malloc ( 1 ) ; }")
    × Stays type_name (codes "int f ( ) { return malloc ( 1 ) ; } typedef int malloc ;")
    × Stays body (codes "void * malloc ( unsigned long ) { } int f ( ) { return malloc ( 1 ) ; }")
    × Stays reserved (codes "void * malloc ( unsigned long ) ; int __alloc_token_x ; int f ( ) { return malloc ( 1 ) ; }")

-- ---- what doesn't

unfoldable pub member : List External
member =
    prototype
    ∷ behind (u.Declares (record {
      specs = u.Record false (Some (codes "s")) (u.body (u.Field int (u.declarator (named (codes "malloc")) u.no_declarators) u.no_fields)) u.no_specs;
      items = [];
    }))

unfoldable pub in_brackets : List External
in_brackets = behind (declares void (malloc_function (u.Group (named (codes "malloc")))))

unfoldable pub undeclared : List External
undeclared = function u.no_params (returns malloc) ∷ []

abbrev pub NotHidden : Type 0
NotHidden =
    Becomes member (codes "void * malloc ( unsigned long ) ; struct s { int malloc ; } ; int f ( ) { return malloc ( 1 ) ; }")
    (codes "void * __alloc_token_malloc ( unsigned long , unsigned long ) ; void * malloc ( unsigned long ) ; struct s { int malloc ; } ; int f ( ) { return __alloc_token_malloc ( 1 , 0UL ) ; }")
    × Becomes in_brackets (codes "void * ( malloc ) ( unsigned long ) ; int f ( ) { return malloc ( 1 ) ; }")
    (codes "void * __alloc_token_malloc ( unsigned long , unsigned long ) ; void * ( malloc ) ( unsigned long ) ; int f ( ) { return __alloc_token_malloc ( 1 , 0UL ) ; }")
    × Becomes undeclared (codes "int f ( ) { return malloc ( 1 ) ; }")
    (codes "void * __alloc_token_malloc ( unsigned long , unsigned long ) ; int f ( ) { return __alloc_token_malloc ( 1 , 0UL ) ; }")

-- ---- three calls of malloc in a row, as the whole unit is written

-- a = malloc ( n ) ;
abbrev pub assign_malloc : List ℕ → Stmt
assign_malloc n = u.ExprStmt (u.some_expr (u.Assign (u.Name (codes "a")) u.Set (malloc_of (number n))))

unfoldable pub three_mallocs : List External
three_mallocs =
    prototype
    ∷ u.Definition int (u.FunctionOf (named (codes "main")) (u.Param void u.no_declarator u.no_params))
    (u.declared (declaration void (u.PointerTo [] (named (codes "a"))) u.no_init)
    (u.statement (assign_malloc (codes "1"))
    (u.statement (assign_malloc (codes "2"))
    (u.statement (assign_malloc (codes "3")) (returns (number (codes "0")))))))
    ∷ []

unfoldable pub three_written : List ℕ
three_written =
    codes "void * __alloc_token_malloc ( unsigned long , unsigned long ) ;" ++ 10 ∷ []
    ++ (codes "void * malloc ( unsigned long ) ;" ++ 10 ∷ [])
    ++ (codes "int main ( void ) { void * a ; a = __alloc_token_malloc ( 1 , 0UL ) ; a = __alloc_token_malloc ( 2 , 1UL ) ; a = __alloc_token_malloc ( 3 , 0UL ) ; return 0 ; }" ++ 10 ∷ [])

abbrev pub ThreeCalls : Type 0
ThreeCalls = unit_text (tagged 2 three_mallocs) ≡ three_written
