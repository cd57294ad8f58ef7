-- What the forms of expressions become that need to know of their nodes (ISO/IEC 9899:2018, 6.5).
use Rattle.std.specs.Prelude.{ℕ, ℤ, pos, Bool, true, false, if◌then◌else◌, List, Option, Some, None, is_some, slice_get, option_and_then}
use Rattle.std.specs.Option.{option_map}
use Rattle.tok_base.specs.declared.token.Span.{Span}
use Rattle.num_ops.specs.declared.kinds.IntKind.{IntKind}
use Rattle.num_ops.specs.declared.kinds.IntKind.TheVariants as k
use Rattle.c_core.specs.declared.values.Scalar.{Scalar}
use Rattle.c_core.specs.declared.values.Scalar.TheVariants as scalar
use Rattle.c_core.specs.declared.tree.LibMark.{LibMark}
use Rattle.c_core.specs.Tree as c
use Rattle.c_core.specs.Library.{Callee, marked_types}
use Rattle.c_core.specs.Signatures.{Signature, signature}
use Rattle.c_tree.specs.declared.operator.At.{At}
use Rattle.c_tree.specs.Tree as t
use Rattle.c_tree.specs.Marked as m
use Rattle.c_types.specs.CTypes.{CType}
use Rattle.c_rules.specs.Walk.{at_of_expr}
use Rattle.c_rules.specs.declared.known.Binding.{Binding}
use Rattle.c_rules.specs.declared.known.Binding.TheVariants as to
use Rattle.c_rules.specs.declared.known.ConstantValue.{ConstantValue}
use Rattle.c_rules.specs.declared.known.ConstantValue.TheVariants as val
use Rattle.c_checked.specs.Told.{binding_of, constant_of}
use Rattle.signature_laws.specs.Told.{scalar_of, signature_told}
use Rattle.lower_rules.specs.Shapes.{type_at, pointed_to, bytes_of, member_offset, spelled}
use Rattle.lower_rules.specs.Lowered.{Lowered, giving, giving_int, constant, null_at, as_pointer, as_taken, is_pointer}
use Rattle.lower_rules.specs.Operators.{cast, copied, assigned, stepped, moved}
use Rattle.lower_rules.specs.Numbered.{Numbered, Scope, bound_address, position, callee_bound}

-- ---- nodes

-- where an expression stands without the parentheses around it (6.5.1, paragraph 5)
abbrev pub inner_span : m.Expr → Span
inner_span (m.Paren at a) = inner_span a
inner_span a = (at_of_expr a).span

abbrev pub type_of_expr : Numbered → m.Expr → CType
type_of_expr n a = type_at n.known (at_of_expr a).id

-- the size of what an operand points at
abbrev pub step_of : Numbered → m.Expr → ℕ
step_of n a = bytes_of n.known (pointed_to (type_of_expr n a))

abbrev pub type_name_node : m.TypeName → ℕ
type_name_node (m.type_name at ss d) = at.id

-- ---- lvalues (6.3.2.1): a scalar is loaded; an array, a record or a function stands for its address

abbrev pub read_as : Span → Option Scalar → (place : Lowered) → Lowered
read_as span None p = record { expr = (as_pointer p).expr; gives = Some scalar.Ptr }
read_as span (Some s) p = giving s span (c.Load (as_pointer p).expr s)

unfoldable pub read : Numbered → At → (place : Lowered) → Lowered
read n at p = read_as at.span (scalar_of (type_at n.known at.id)) p

-- ---- constants (6.4.4, 6.5.3.4)

abbrev pub kind_or_int : Option Scalar → IntKind
kind_or_int (Some (scalar.Int kind)) = kind
kind_or_int s = k.Int

abbrev pub number_or_zero : Option ConstantValue → ℤ
number_or_zero (Some (val.Number z)) = z
number_or_zero v = pos 0

unfoldable pub number_at : Numbered → At → Lowered
number_at n at = constant at.span (kind_or_int (scalar_of (type_at n.known at.id))) (number_or_zero (constant_of n.known at.id))

unfoldable pub size_at : Numbered → At → CType → Lowered
size_at n at t = constant at.span k.ULong (pos (bytes_of n.known t))

-- ---- names (6.5.1)

abbrev pub named_as : Numbered → Scope → At → Option Binding → Lowered
named_as n scope at (Some (to.Enumerator z)) = constant at.span k.Int z
named_as n scope at (Some (to.Object number)) = read n at (bound_address n scope at.span (Some (to.Object number)))
named_as n scope at b = bound_address n scope at.span b

unfoldable pub named_at : Numbered → Scope → At → Lowered
named_at n scope at = named_as n scope at (binding_of n.known at.id)

unfoldable pub name_place : Numbered → Scope → At → Lowered
name_place n scope at = bound_address n scope at.span (binding_of n.known at.id)

-- ---- postfix operators (6.5.2)

-- the pointer stands on either side, and comes first
unfoldable pub index_place : Numbered → At → Lowered → Lowered → Lowered
index_place n at a b =
    if is_pointer a then moved at.span a b (bytes_of n.known (type_at n.known at.id)) false
    else moved at.span b a (bytes_of n.known (type_at n.known at.id)) false

-- the member with a name of a record of a type
unfoldable pub member_place : Numbered → At → CType → List ℕ → (record_at : Lowered) → Lowered
member_place n at t name p = moved at.span p (constant at.span k.Long (pos (member_offset n.known t name))) 1 false

abbrev pub stepped_as : Numbered → At → m.Expr → (down post : Bool) → Option Scalar → (place : Lowered) → Lowered
stepped_as n at a down post None p = null_at at.span
stepped_as n at a down post (Some s) p = stepped at.span (inner_span a) s down post (step_of n a) p

-- also the prefix operators (6.5.3.1)
unfoldable pub step_at : Numbered → At → m.Expr → (down post : Bool) → (place : Lowered) → Lowered
step_at n at a down post p = stepped_as n at a down post (scalar_of (type_of_expr n a)) p

abbrev pub post_is_down : t.Step → Bool
post_is_down t.PostIncrement = false
post_is_down t.PostDecrement = true

-- ---- calls (6.5.2.2)

-- the node of the name that is called, perhaps in parentheses
abbrev pub called_name : m.Expr → Option ℕ
called_name (m.Name at name) = Some at.id
called_name (m.Paren at a) = called_name a
called_name a = None

abbrev pub callee_at : Numbered → (call : At) → m.Expr → Option Callee
callee_at n call f = option_and_then (λ node. callee_bound n call.id (binding_of n.known node)) (called_name f)

-- of a library function: the arguments are converted as its type says
abbrev pub library_call_as : At → ℕ → LibMark → Option Signature → List Lowered → Lowered
library_call_as at l mark None es = null_at at.span
library_call_as at l mark (Some s) es = record { expr = c.At at.span (c.LibCall l (as_taken at.span s.takes es) mark); gives = s.gives }

unfoldable pub library_call : At → Callee → List Lowered → Lowered
library_call at callee es = library_call_as at callee.0 callee.1 (option_map signature (slice_get (marked_types callee.1) callee.0)) es

-- a function that gives nothing has no value that is used
abbrev pub used_of : Bool → Option Scalar → Option Scalar
used_of true g = g
used_of false g = None

abbrev pub call_as : At → (type : List ℕ) → (used : Bool) → Option Signature → Lowered → List Lowered → Lowered
call_as at type used None f es = null_at at.span
call_as at type used (Some s) f es =
    record { expr = c.At at.span (c.Call (as_pointer f).expr type (as_taken at.span s.takes es) (is_some (used_of used s.gives))); gives = used_of used s.gives }

-- of a value that points to a function of a type
unfoldable pub value_call : Numbered → (used : Bool) → At → CType → Lowered → List Lowered → Lowered
value_call n used at t f es = call_as at (spelled n.known t) used (signature_told t) f es

abbrev pub call_of : Numbered → (used : Bool) → At → CType → Option Callee → Lowered → List Lowered → Lowered
call_of n used at t None f es = value_call n used at t f es
call_of n used at t (Some callee) f es = library_call at callee es

-- ---- unary operators (6.5.3), casts (6.5.4), assignments (6.5.16), the builtin

unfoldable pub address_of : Lowered → Lowered
address_of p = record { expr = (as_pointer p).expr; gives = Some scalar.Ptr }

abbrev pub cast_at : Numbered → At → Lowered → Lowered
cast_at n at e = cast at.span (scalar_of (type_at n.known at.id)) e

-- a scalar is stored, or changed; a record is copied from its place q
abbrev pub assigned_at : Numbered → At → m.Expr → t.AssignOp → m.Expr → Option Scalar → (p v q : Lowered) → Lowered
assigned_at n at a o b (Some s) p v q = assigned at.span (inner_span a) s o (step_of n a) p v
assigned_at n at a o b None p v q = copied at.span p (inner_span a) q (inner_span b) (bytes_of n.known (type_of_expr n a))

abbrev pub marked_as : Span → Option ℕ → Lowered
marked_as span None = constant span k.ULong (pos 0)
marked_as span (Some i) = giving_int k.ULong span (c.Mark i)

-- 0 stands where one of an argument would, which is nowhere computed
unfoldable pub builtin_at : Numbered → At → Lowered
builtin_at n at = marked_as at.span (position at.id n.marks)
