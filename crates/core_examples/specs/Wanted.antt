-- Short names for the parts of the cores that are wanted.
use Rattle.std.specs.Prelude.{ℕ, ℤ, pos, Bool, true, false, List, [], ◌∷◌, ◌++◌, codes}
use Rattle.num_ops.specs.declared.kinds.IntKind.{IntKind}
use Rattle.num_ops.specs.declared.kinds.IntKind.TheVariants as k
use Rattle.num_ops.specs.declared.arithmetic.Op.{Op}
use Rattle.num_ops.specs.declared.shifts.Cmp.{Cmp}
use Rattle.c_core.specs.declared.values.Value.TheVariants as value
use Rattle.c_core.specs.declared.values.Scalar.{Scalar}
use Rattle.c_core.specs.declared.values.Scalar.TheVariants as scalar
use Rattle.c_core.specs.declared.values.Pointer.TheVariants.{Null}
use Rattle.c_core.specs.declared.tree.Place.TheVariants as place
use Rattle.c_core.specs.declared.tree.LibMark.{LibMark}
use Rattle.c_core.specs.declared.tree.ModifyOp.TheVariants as modify
use Rattle.c_core.specs.Tree as core
use Rattle.c_core.specs.Tree.{Expr, Exprs, no_exprs, one_expr, Stmt, Stmts, no_stmts, one_stmt}
use Rattle.core_examples.specs.Found.{Row, computes, nowhere}

abbrev pub x : core.Form → Expr
x form = core.At nowhere form

-- ---- constants and addresses

abbrev pub number : IntKind → ℤ → Expr
number kind z = x (core.Const (value.Int (record { kind = kind; value = z })))

abbrev pub int : ℕ → Expr
int n = number k.Int (pos n)

abbrev pub long : ℕ → Expr
long n = number k.Long (pos n)

abbrev pub size : ℕ → Expr
size n = number k.ULong (pos n)

abbrev pub null : Expr
null = x (core.Const (value.Ptr Null))

abbrev pub fixed : ℕ → Expr
fixed n = x (core.Object (place.Fixed n))

abbrev pub local : ℕ → Expr
local n = x (core.Object (place.Local n))

abbrev pub text : ℕ → Expr
text n = x (core.Text n)

abbrev pub func : ℕ → Expr
func n = x (core.Func n)

-- ---- reading and writing

abbrev pub pointer : Scalar
pointer = scalar.Ptr

abbrev pub load : IntKind → Expr → Expr
load kind p = x (core.Load p (scalar.Int kind))

abbrev pub load_pointer : Expr → Expr
load_pointer p = x (core.Load p scalar.Ptr)

abbrev pub store : IntKind → Expr → Expr → Expr
store kind p e = x (core.Store p nowhere (scalar.Int kind) e)

abbrev pub store_pointer : Expr → Expr → Expr
store_pointer p e = x (core.Store p nowhere scalar.Ptr e)

abbrev pub copy : Expr → Expr → ℕ → Expr
copy p q n = x (core.CopyRecord p nowhere q nowhere n)

-- ---- operators

abbrev pub convert : IntKind → Expr → Expr
convert kind e = x (core.Convert kind e)

abbrev pub truth : Expr → Expr
truth e = x (core.Truth e false)

abbrev pub negated : Expr → Expr
negated e = x (core.Truth e true)

abbrev pub arith : Op → Expr → Expr → Expr
arith o a b = x (core.Arith o a b)

abbrev pub compare : Cmp → Expr → Expr → Expr
compare o a b = x (core.CompareInt o a b)

abbrev pub compare_pointers : Cmp → Expr → Expr → Expr
compare_pointers o a b = x (core.ComparePtr o a b)

-- so many elements of a size further, or back
abbrev pub forward : Expr → Expr → ℕ → Expr
forward p i n = x (core.PtrAdd p i n false)

abbrev pub back : Expr → Expr → ℕ → Expr
back p i n = x (core.PtrAdd p i n true)

-- a member, or another part, at an offset
abbrev pub part : Expr → ℕ → Expr
part p n = forward p (long n) 1

-- what is at a place is changed, and its new value given, or with `after` its old one
abbrev pub change : IntKind → Expr → Op → (common : IntKind) → Expr → Expr
change kind p o common e = x (core.Modify p nowhere (scalar.Int kind) (modify.Arith o) e common false)

abbrev pub change_after : IntKind → Expr → Op → (common : IntKind) → Expr → Expr
change_after kind p o common e = x (core.Modify p nowhere (scalar.Int kind) (modify.Arith o) e common true)

abbrev pub change_shift : IntKind → Expr → (left : Bool) → (common : IntKind) → Expr → Expr
change_shift kind p left common e = x (core.Modify p nowhere (scalar.Int kind) (modify.ShiftBits left) e common false)

abbrev pub change_pointer : Expr → (size : ℕ) → (minus : Bool) → (common : IntKind) → Expr → (post : Bool) → Expr
change_pointer p n minus common e post = x (core.Modify p nowhere scalar.Ptr (modify.PtrAdd n minus) e common post)

-- ---- calls

abbrev pub exprs : List Expr → Exprs
exprs [] = no_exprs
exprs (e ∷ es) = one_expr e (exprs es)

abbrev pub call : Expr → List ℕ → List Expr → Expr
call f type es = x (core.Call f type (exprs es) true)

abbrev pub call_unused : Expr → List ℕ → List Expr → Expr
call_unused f type es = x (core.Call f type (exprs es) false)

abbrev pub library : ℕ → List Expr → LibMark → Expr
library l es mark = x (core.LibCall l (exprs es) mark)

-- ---- statements

abbrev pub stmts : List Stmt → Stmts
stmts [] = no_stmts
stmts (s ∷ ss) = one_stmt s (stmts ss)

-- a block of objects, and one without any
abbrev pub with_objects : List (ℕ × ℕ) → List Stmt → Stmt
with_objects objects ss = core.Block objects (stmts ss)

abbrev pub block : List Stmt → Stmt
block ss = with_objects [] ss

abbrev pub init : ℕ → List Expr → Stmt
init n es = core.Init n false (exprs es)

abbrev pub init_zeros : ℕ → List Expr → Stmt
init_zeros n es = core.Init n true (exprs es)

-- ---- an expression as a statement, behind some declarations

abbrev pub declarations : List ℕ
declarations = codes "int i; long l; char c; unsigned u; _Bool b; int *p; char *s; int a[4]; struct t { char c; int n; int m[2]; } r, *q; int g(int); int (*h)(int); void v(void); enum { E = 7 }; void f(void) { "

abbrev pub i : Expr
i = fixed 0

abbrev pub l : Expr
l = fixed 1

abbrev pub c : Expr
c = fixed 2

abbrev pub u : Expr
u = fixed 3

abbrev pub b : Expr
b = fixed 4

abbrev pub p : Expr
p = fixed 5

abbrev pub s : Expr
s = fixed 6

abbrev pub a : Expr
a = fixed 7

abbrev pub r : Expr
r = fixed 8

abbrev pub q : Expr
q = fixed 9

abbrev pub h : Expr
h = fixed 10

-- the values of the scalars
abbrev pub the_i : Expr
the_i = load k.Int i

abbrev pub the_l : Expr
the_l = load k.Long l

abbrev pub the_c : Expr
the_c = convert k.Int (load k.Char c)

abbrev pub the_u : Expr
the_u = load k.UInt u

abbrev pub the_b : Expr
the_b = convert k.Int (load k.Bool b)

abbrev pub the_p : Expr
the_p = load_pointer p

abbrev pub the_s : Expr
the_s = load_pointer s

abbrev pub the_q : Expr
the_q = load_pointer q

abbrev pub the_h : Expr
the_h = load_pointer h

abbrev pub becomes : List ℕ → Expr → Row
becomes e wanted = computes (declarations ++ (e ++ codes "; }")) wanted
