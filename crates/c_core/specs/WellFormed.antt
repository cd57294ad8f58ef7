-- Well-formed programs: every number names a thing that is there, and every part is of the sort that its form takes.
use Rattle.std.specs.Prelude.{ℕ, ◌+◌, ◌^◌, Bool, true, false, not, ◌&&◌, ◌||◌, ◌==◌, if◌then◌else◌, nat_lt, nat_le, List, [], ◌∷◌, ◌++◌, length, map, Option, Some, None, is_some, slice_get, codes, bytes_eq}
use Rattle.num_ops.specs.declared.kinds.IntKind.{IntKind}
use Rattle.num_ops.specs.declared.kinds.IntKind.TheVariants as k
use Rattle.num_ops.specs.Kinds.{holds}
use Rattle.c_core.specs.declared.values.Pointer.{Pointer}
use Rattle.c_core.specs.declared.values.Pointer.TheVariants.{Null, Object, Function}
use Rattle.c_core.specs.declared.values.Value.{Value}
use Rattle.c_core.specs.declared.values.Value.TheVariants as value
use Rattle.c_core.specs.declared.values.Scalar.{Scalar}
use Rattle.c_core.specs.declared.values.Scalar.TheVariants as scalar
use Rattle.c_core.specs.declared.values.Cell.{Cell}
use Rattle.c_core.specs.declared.values.Cell.TheVariants.{Undefined, Byte, Part}
use Rattle.c_core.specs.declared.tree.Place.{Place}
use Rattle.c_core.specs.declared.tree.Place.TheVariants as place
use Rattle.c_core.specs.declared.tree.ModifyOp.{ModifyOp}
use Rattle.c_core.specs.declared.tree.ModifyOp.TheVariants as modify
use Rattle.c_core.specs.declared.tree.FixedObject.{FixedObject}
use Rattle.c_core.specs.Tree as t
use Rattle.c_core.specs.Tree.{Expr, At, Form, Exprs, no_exprs, one_expr, MaybeExpr, NoExpr, TheExpr, Stmt, Else, NoElse, Otherwise, Stmts, no_stmts, one_stmt, Program}
use Rattle.c_core.specs.Values.{scalar_size}
use Rattle.c_core.specs.Library.{marked_types, callee_of, callee_type, Callee}
use Rattle.c_core.specs.Signatures.{signature}
use Rattle.c_core.specs.Sorts.{Sort, Gives, Void, IllSorted, given, an, int, a_pointer, is_right, gives, is_scalar, is_pointer, is_integer, is_promoted, of_one_kind, either_of, call_sort, library_sort}

abbrev pub has : ℕ → List ℕ → Bool
has n [] = false
has n (x ∷ xs) = (x == n) || has n xs

-- 6.2.5, paragraph 20; 6.5.3.4: an object has at least one byte, and no type has 2^28
abbrev pub is_size : ℕ → Bool
is_size n = nat_lt 0 n && nat_lt n (2 ^ 28)

-- 6.4.4, paragraph 2; 6.3.2.3, paragraph 3: a constant is a value that its type has, or null
abbrev pub constant_sort : Value → Sort
constant_sort (value.Int n) = given (holds n.kind n.value) (an n.kind)
constant_sort (value.Ptr Null) = a_pointer
constant_sort (value.Ptr p) = IllSorted

-- 6.4.5: a string literal, which is defined and read only
abbrev pub is_literal : Option FixedObject → Bool
is_literal None = false
is_literal (Some o) = o.read_only && o.defined

-- 6.2.2, 6.2.4: an object of static storage duration
abbrev pub is_object : Option FixedObject → Bool
is_object None = false
is_object (Some o) = not o.read_only

-- a fixed object, or a local that is made where the expression stands
abbrev pub has_place : Program → (locals : List ℕ) → Place → Bool
has_place c locals (place.Fixed n) = is_object (slice_get c.fixed n)
has_place c locals (place.Local x) = has x locals

-- 6.5.2.4, 6.5.3.1, 6.5.16.2: an operator on an object of a type: whether its operand is of the sort that it takes, already
-- of the kind in which it is computed
abbrev pub modifies : ModifyOp → Scalar → (common : IntKind) → (operand : Sort) → Bool
modifies (modify.Arith op) (scalar.Int kind) common e = is_promoted (an common) && gives (scalar.Int common) e
modifies (modify.ShiftBits left) (scalar.Int kind) common e = is_promoted (an common) && is_promoted e
modifies (modify.PtrAdd size minus) scalar.Ptr common e = is_size size && is_promoted e
modifies op kind common e = false

abbrev pub library_call_sort : (type : Option (List ℕ)) → (args : List Sort) → Sort
library_call_sort None args = IllSorted
library_call_sort (Some type) args = library_sort (signature type) args

module _ (c : Program) (locals : List ℕ) where
  abbrev mutual
    -- what an expression gives
    pub sort_of : Expr → Sort
    sort_of (At span form) = sort_of_form form

    pub sort_of_form : Form → Sort
    -- 6.5.1: constants, string literals, functions and objects by their addresses
    sort_of_form (t.Const v) = constant_sort v
    sort_of_form (t.Text n) = given (is_literal (slice_get c.fixed n)) a_pointer
    sort_of_form (t.Func n) = given (nat_lt n (length c.funcs)) a_pointer
    sort_of_form (t.Object p) = given (has_place c locals p) a_pointer
    -- 6.3.2.1, 6.5.16: a place is a pointer, and what is stored there is of the kind that is stored
    sort_of_form (t.Load p kind) = given (is_pointer (sort_of p)) (Gives kind)
    sort_of_form (t.Store p at kind e) = given (is_pointer (sort_of p) && gives kind (sort_of e)) (Gives kind)
    sort_of_form (t.CopyRecord p to_at q from_at size) = given (is_pointer (sort_of p) && is_pointer (sort_of q) && is_size size) Void
    -- 6.3.1, 6.5.3.3: an integer is converted; a scalar is true or not
    sort_of_form (t.Convert kind e) = given (is_integer (sort_of e)) (an kind)
    sort_of_form (t.Truth e negated) = given (is_scalar (sort_of e)) int
    -- 6.5.5, 6.5.6, 6.5.10 to 6.5.12: two integers of one promoted kind, which is the result's
    sort_of_form (t.Arith op a b) = given (is_promoted (sort_of a) && of_one_kind (sort_of a) (sort_of b)) (sort_of a)
    -- 6.5.7: each of its own promoted kind; the result has the left one's
    sort_of_form (t.ShiftBits left a b) = given (is_promoted (sort_of a) && is_promoted (sort_of b)) (sort_of a)
    -- 6.5.8, 6.5.9
    sort_of_form (t.CompareInt op a b) = given (of_one_kind (sort_of a) (sort_of b)) int
    sort_of_form (t.ComparePtr op p q) = given (is_pointer (sort_of p) && is_pointer (sort_of q)) int
    -- 6.5.6, paragraphs 8 and 9
    sort_of_form (t.PtrAdd p i size minus) = given (is_pointer (sort_of p) && is_integer (sort_of i) && is_size size) a_pointer
    sort_of_form (t.PtrDiff p q size) = given (is_pointer (sort_of p) && is_pointer (sort_of q) && is_size size) (an k.Long)
    -- 6.5.13 to 6.5.15, 6.5.17: what is tested is an integer; what stands left of a comma may be of any sort
    sort_of_form (t.Both a b) = given (is_integer (sort_of a) && is_integer (sort_of b)) int
    sort_of_form (t.Either a b) = given (is_integer (sort_of a) && is_integer (sort_of b)) int
    sort_of_form (t.Choose a b d) = given (is_integer (sort_of a)) (either_of (sort_of b) (sort_of d))
    sort_of_form (t.Then a b) = given (is_right (sort_of a)) (sort_of b)
    sort_of_form (t.Modify p at kind op e common post) = given (is_pointer (sort_of p) && modifies op kind common (sort_of e)) (Gives kind)
    -- 6.5.2.2, paragraphs 2, 5 and 7: a function gets what its type takes
    sort_of_form (t.Call f type es used) = given (is_pointer (sort_of f)) (call_sort (signature type) (sorts_of es) used)
    sort_of_form (t.LibCall n es mark) = library_call_sort (slice_get (marked_types mark) n) (sorts_of es)
    sort_of_form (t.Mark n) = an k.ULong

    pub sorts_of : Exprs → List Sort
    sorts_of no_exprs = []
    sorts_of (one_expr e es) = sort_of e ∷ sorts_of es

  -- the place of a local, or of a part of it
  abbrev mutual
    pub is_in : (local : ℕ) → Expr → Bool
    is_in x (At span form) = is_place_in x form

    pub is_place_in : (local : ℕ) → Form → Bool
    is_place_in x (t.Object (place.Local y)) = x == y
    is_place_in x (t.PtrAdd p i size minus) = is_in x p
    is_place_in x form = false

  -- 6.7.9: an initialiser stores and copies to its own object
  abbrev pub initialises : (local : ℕ) → Expr → Bool
  initialises x (At span (t.Store p at kind e)) = is_in x p
  initialises x (At span (t.CopyRecord p to_at q from_at size)) = is_in x p
  initialises x e = false

  abbrev pub good_items : (local : ℕ) → Exprs → Bool
  good_items x no_exprs = true
  good_items x (one_expr e es) = initialises x e && is_right (sort_of e) && good_items x es

  abbrev pub good_step : MaybeExpr → Bool
  good_step NoExpr = true
  good_step (TheExpr e) = is_right (sort_of e)

  -- 6.8.6.4: a value of the function's result where it gives one, else none
  abbrev pub good_return : (gives : Option Scalar) → MaybeExpr → Bool
  good_return None NoExpr = true
  good_return (Some s) (TheExpr e) = gives s (sort_of e)
  good_return result e = false

abbrev pub names : List (ℕ × ℕ) → List ℕ
names [] = []
names (o ∷ objects) = o.0 ∷ names objects

-- 6.2.1, 6.2.4: each object has a number that no other has where it lives
abbrev pub good_objects : (locals : List ℕ) → List (ℕ × ℕ) → Bool
good_objects locals [] = true
good_objects locals (o ∷ objects) = not (has o.0 locals) && is_size o.1 && good_objects (o.0 ∷ locals) objects

module _ (c : Program) (result : Option Scalar) where
  abbrev mutual
    -- a statement, where these locals live, within a loop or not
    pub good_stmt : (locals : List ℕ) → (in_loop : Bool) → Stmt → Bool
    -- 6.8.2, 6.8.3
    good_stmt locals in_loop (t.Block objects ss) = good_objects locals objects && good_stmts (names objects ++ locals) in_loop ss
    good_stmt locals in_loop (t.Do e) = is_right (sort_of c locals e)
    -- 6.7.9
    good_stmt locals in_loop (t.Init x zeros items) = has x locals && good_items c locals x items
    -- 6.8.4.1, 6.8.5: what is tested is an integer
    good_stmt locals in_loop (t.If e a b) = is_integer (sort_of c locals e) && good_stmt locals in_loop a && good_else locals in_loop b
    good_stmt locals in_loop (t.Loop first e step b) = is_integer (sort_of c locals e) && good_step c locals step && good_stmt locals true b
    -- 6.8.6.2, 6.8.6.3
    good_stmt locals in_loop t.Break = in_loop
    good_stmt locals in_loop t.Continue = in_loop
    good_stmt locals in_loop (t.Return e) = good_return c locals result e

    pub good_else : (locals : List ℕ) → (in_loop : Bool) → Else → Bool
    good_else locals in_loop NoElse = true
    good_else locals in_loop (Otherwise b) = good_stmt locals in_loop b

    pub good_stmts : (locals : List ℕ) → (in_loop : Bool) → Stmts → Bool
    good_stmts locals in_loop no_stmts = true
    good_stmts locals in_loop (one_stmt s ss) = good_stmt locals in_loop s && good_stmts locals in_loop ss

-- ---- functions

-- the numbers of the parameters
abbrev pub numbers : (first : ℕ) → List ℕ → List ℕ
numbers n [] = []
numbers n (size ∷ sizes) = n ∷ numbers (n + 1) sizes

abbrev pub has_type : List ℕ → Option (List ℕ) → Bool
has_type type None = false
has_type type (Some wanted) = bytes_eq type wanted

-- 7.1.4: a library function and an entry point have their own types; other functions may have no body, and any type
abbrev pub good_library_type : List ℕ → Option Callee → Bool
good_library_type type None = true
good_library_type type (Some callee) = has_type type (callee_type callee)

abbrev pub good_body : Program → t.Function → Option Stmt → Bool
good_body c f None = good_library_type f.ty (callee_of f.name)
good_body c f (Some body) = good_stmt c (signature f.ty).gives (numbers 0 f.params) false body

-- 6.9.1: the parameters have the sizes of what the type takes, and so they have in a function without a body
abbrev pub good_function : Program → t.Function → Bool
good_function c f = bytes_eq f.params (map scalar_size (signature f.ty).takes) && good_body c f f.body

abbrev pub good_functions : Program → List t.Function → Bool
good_functions c [] = true
good_functions c (f ∷ funcs) = good_function c f && good_functions c funcs

-- ---- fixed objects

-- a place in an object that is defined, or its end
abbrev pub reaches : Option FixedObject → (offset : ℕ) → Bool
reaches None offset = false
reaches (Some o) offset = o.defined && nat_le offset o.size

-- 6.6, paragraph 9: a pointer that an initialiser makes is to a function or into a fixed object
abbrev pub good_pointer : Program → Pointer → Bool
good_pointer c Null = false
good_pointer c (Function f) = nat_lt f (length c.funcs)
good_pointer c (Object n offset) = reaches (slice_get c.fixed n) offset

abbrev pub good_cell : Program → Cell → Bool
good_cell c Undefined = false
good_cell c (Byte b) = nat_lt b 256
good_cell c (Part p i) = good_pointer c p && nat_lt i 8

abbrev pub good_cells : Program → (size : ℕ) → List (ℕ × Cell) → Bool
good_cells c size [] = true
good_cells c size (cell ∷ cells) = nat_lt cell.0 size && good_cell c cell.1 && good_cells c size cells

-- 6.9.2, 6.4.5: an object that is only declared has no cells, and is no literal
abbrev pub good_object : Program → FixedObject → Bool
good_object c o =
    if o.defined then is_size o.size && good_cells c o.size o.cells else not o.read_only && good_cells c 0 o.cells

abbrev pub good_fixed : Program → List FixedObject → Bool
good_fixed c [] = true
good_fixed c (o ∷ fixed) = good_object c o && good_fixed c fixed

-- ---- programs

abbrev pub is_main : Option t.Function → Bool
is_main None = false
is_main (Some f) = is_some f.body && bytes_eq f.ty (codes "int (void)")

-- 5.1.2.2.1: `main` has a body, and the type `int (void)`
abbrev pub has_main : Program → Option ℕ → Bool
has_main c None = false
has_main c (Some n) = is_main (slice_get c.funcs n)

-- every number in the program names a thing that it has at that place, and every part is of the sort that its form takes
abbrev pub well_formed : Program → Bool
well_formed c = has_main c c.main && nat_lt (length c.fixed) (2 ^ 31) && good_functions c c.funcs && good_fixed c c.fixed
