-- Core expressions with what they give, and the conversions between them. Where a part doesn't give what is asked of it,
-- as nowhere in a unit that keeps the rules, a zero stands in its place: so each expression that is made here gives what it says.
use Rattle.std.specs.Prelude.{ℤ, pos, Bool, true, false, if◌then◌else◌, List, [], ◌∷◌, Option, Some, None}
use Rattle.tok_base.specs.declared.token.Span.{Span}
use Rattle.num_ops.specs.declared.kinds.IntKind.{IntKind}
use Rattle.num_ops.specs.declared.kinds.IntKind.TheVariants as k
use Rattle.num_ops.specs.Conversions.{converted, promoted}
use Rattle.c_core.specs.declared.values.Pointer.TheVariants.{Null}
use Rattle.c_core.specs.declared.values.Value.TheVariants as value
use Rattle.c_core.specs.declared.values.Scalar.{Scalar}
use Rattle.c_core.specs.declared.values.Scalar.TheVariants as scalar
use Rattle.c_core.specs.Sorts.{same_kind}
use Rattle.c_core.specs.Tree as c
use Rattle.c_core.specs.Tree.{Expr, At, Form, Exprs, no_exprs, one_expr, span_of}

-- a core expression, and the scalar that it gives, if any
pub record Lowered : Type 0 where
  pub expr : Expr
  pub gives : Option Scalar

abbrev pub giving : Scalar → Span → Form → Lowered
giving s span form = record { expr = At span form; gives = Some s }

abbrev pub giving_nothing : Span → Form → Lowered
giving_nothing span form = record { expr = At span form; gives = None }

-- an integer of a kind
abbrev pub giving_int : IntKind → Span → Form → Lowered
giving_int kind span form = giving (scalar.Int kind) span form

abbrev pub lowered_span : Lowered → Span
lowered_span e = span_of e.expr

-- ---- what is given

abbrev pub is_int_given : Option Scalar → Bool
is_int_given (Some (scalar.Int kind)) = true
is_int_given g = false

abbrev pub is_int : Lowered → Bool
is_int e = is_int_given e.gives

abbrev pub is_pointer_given : Option Scalar → Bool
is_pointer_given (Some scalar.Ptr) = true
is_pointer_given g = false

abbrev pub is_pointer : Lowered → Bool
is_pointer e = is_pointer_given e.gives

-- the kind that the promotions give an integer (6.3.1.1, paragraph 2)
abbrev pub kind_given : Option Scalar → IntKind
kind_given (Some (scalar.Int kind)) = promoted kind
kind_given g = k.Int

abbrev pub kind_of : Lowered → IntKind
kind_of e = kind_given e.gives

-- ---- constants

-- an integer as a value of the kind (6.3.1.3)
abbrev pub constant : Span → IntKind → ℤ → Lowered
constant span kind z = giving_int kind span (c.Const (value.Int (record { kind = kind; value = converted kind z })))

abbrev pub null_at : Span → Lowered
null_at span = giving scalar.Ptr span (c.Const (value.Ptr Null))

abbrev pub zero_at : Span → Scalar → Lowered
zero_at span (scalar.Int kind) = constant span kind (pos 0)
zero_at span scalar.Ptr = null_at span

-- ---- conversions (6.3), each at the place of the cast, or of the expression that is converted

abbrev pub truth : Span → (negated : Bool) → Lowered → Lowered
truth span negated e = giving_int k.Int span (c.Truth e.expr negated)

abbrev pub convert : Span → IntKind → Lowered → Lowered
convert span kind e = giving_int kind span (c.Convert kind e.expr)

-- to an integer of a kind; a pointer goes to `_Bool` alone, by whether it isn't null (6.3.1.2)
abbrev pub given_as_kind : Option Scalar → Span → IntKind → Lowered → Lowered
given_as_kind (Some (scalar.Int from)) span kind e = if same_kind from kind then e else convert span kind e
given_as_kind (Some scalar.Ptr) span kind e = if same_kind kind k.Bool then convert span kind (truth span false e) else constant span kind (pos 0)
given_as_kind None span kind e = constant span kind (pos 0)

-- to a pointer: an integer that is converted to one is a null pointer constant (6.3.2.3, paragraph 3)
abbrev pub given_as_pointer : Option Scalar → Span → Lowered → Lowered
given_as_pointer (Some scalar.Ptr) span e = e
given_as_pointer g span e = null_at span

abbrev pub as_scalar_at : Span → Scalar → Lowered → Lowered
as_scalar_at span (scalar.Int kind) e = given_as_kind e.gives span kind e
as_scalar_at span scalar.Ptr e = given_as_pointer e.gives span e

abbrev pub as_scalar : Scalar → Lowered → Lowered
as_scalar s e = as_scalar_at (lowered_span e) s e

abbrev pub as_kind : IntKind → Lowered → Lowered
as_kind kind e = as_scalar (scalar.Int kind) e

abbrev pub as_pointer : Lowered → Lowered
as_pointer e = as_scalar scalar.Ptr e

abbrev pub promote : Lowered → Lowered
promote e = as_kind (kind_of e) e

-- an integer of whatever kind
abbrev pub given_as_integer : Option Scalar → Lowered → Lowered
given_as_integer (Some (scalar.Int kind)) e = e
given_as_integer g e = constant (lowered_span e) k.Int (pos 0)

abbrev pub as_integer : Lowered → Lowered
as_integer e = given_as_integer e.gives e

-- what is tested (6.5.13 to 6.5.15, 6.8.4.1, 6.8.5): an integer as it is, or whether a pointer isn't null
abbrev pub tested_given : Option Scalar → Lowered → Lowered
tested_given (Some scalar.Ptr) e = truth (lowered_span e) false e
tested_given g e = as_integer e

abbrev pub tested : Lowered → Lowered
tested e = tested_given e.gives e

-- ---- lists

-- each argument as the type of its parameter (6.5.2.2, paragraph 7); the call stands at this place
abbrev pub as_taken : Span → List Scalar → List Lowered → Exprs
as_taken span [] es = no_exprs
as_taken span (s ∷ ss) [] = one_expr (zero_at span s).expr (as_taken span ss [])
as_taken span (s ∷ ss) (e ∷ es) = one_expr (as_scalar s e).expr (as_taken span ss es)
