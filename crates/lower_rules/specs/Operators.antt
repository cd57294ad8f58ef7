-- What the operators become (ISO/IEC 9899:2018, 6.5).
use Rattle.std.specs.Prelude.{ℕ, pos, negsuc, Bool, true, false, ◌&&◌, ◌||◌, if◌then◌else◌, Option, Some, None}
use Rattle.tok_base.specs.declared.token.Span.{Span}
use Rattle.num_ops.specs.declared.kinds.IntKind.{IntKind}
use Rattle.num_ops.specs.declared.kinds.IntKind.TheVariants as k
use Rattle.num_ops.specs.declared.arithmetic.Op.{Op}
use Rattle.num_ops.specs.declared.arithmetic.Op.TheVariants as op
use Rattle.num_ops.specs.declared.shifts.Cmp.{Cmp}
use Rattle.num_ops.specs.declared.shifts.Cmp.TheVariants as cmp
use Rattle.num_ops.specs.Conversions.{promoted, common_kind}
use Rattle.c_core.specs.declared.values.Scalar.{Scalar}
use Rattle.c_core.specs.declared.values.Scalar.TheVariants as scalar
use Rattle.c_core.specs.declared.tree.ModifyOp.{ModifyOp}
use Rattle.c_core.specs.declared.tree.ModifyOp.TheVariants as modify
use Rattle.c_core.specs.Tree as c
use Rattle.c_tree.specs.Tree as t
use Rattle.lower_rules.specs.Lowered.{Lowered, giving, giving_nothing, giving_int, constant, truth, as_kind, as_integer, as_pointer, as_scalar, as_scalar_at, kind_of, promote, tested, is_int, is_pointer}

-- the kind in which two integers are computed (6.3.1.8)
abbrev pub common_of : Lowered → Lowered → IntKind
common_of a b = common_kind (kind_of a) (kind_of b)

abbrev pub arithmetic : Span → Op → IntKind → Lowered → Lowered → Lowered
arithmetic span o kind a b = giving_int kind span (c.Arith o (as_kind kind a).expr (as_kind kind b).expr)

-- 6.5.5, 6.5.6, 6.5.10 to 6.5.12
abbrev pub in_common : Span → Op → Lowered → Lowered → Lowered
in_common span o a b = arithmetic span o (common_of a b) a b

-- 6.5.7
abbrev pub shift : Span → (left : Bool) → Lowered → Lowered → Lowered
shift span left a b = giving_int (kind_of a) span (c.ShiftBits left (promote a).expr (promote b).expr)

-- a pointer and a number of elements of a size (6.5.6, paragraph 8)
abbrev pub moved : Span → Lowered → Lowered → (size : ℕ) → (minus : Bool) → Lowered
moved span p i size minus = giving scalar.Ptr span (c.PtrAdd (as_pointer p).expr (as_integer i).expr size minus)

-- 6.5.6, paragraph 9
abbrev pub difference : Span → Lowered → Lowered → (size : ℕ) → Lowered
difference span a b size = giving_int k.Long span (c.PtrDiff (as_pointer a).expr (as_pointer b).expr size)

-- a points at elements of size m, and b at elements of size n. The pointer comes first
abbrev pub sum : Span → Lowered → ℕ → Lowered → ℕ → Lowered
sum span a m b n =
    if is_pointer a then moved span a b m false
    else if is_pointer b then moved span b a n false
    else in_common span op.Add a b

abbrev pub subtracted : Span → Lowered → ℕ → Lowered → Lowered
subtracted span a m b =
    if is_pointer a && is_pointer b then difference span a b m
    else if is_pointer a then moved span a b m true
    else in_common span op.Sub a b

-- 6.5.8, 6.5.9
abbrev pub comparison_of_integers : Span → Cmp → Lowered → Lowered → Lowered
comparison_of_integers span o a b = giving_int k.Int span (c.CompareInt o (as_kind (common_of a b) a).expr (as_kind (common_of a b) b).expr)

abbrev pub comparison_of_pointers : Span → Cmp → Lowered → Lowered → Lowered
comparison_of_pointers span o a b = giving_int k.Int span (c.ComparePtr o (as_pointer a).expr (as_pointer b).expr)

abbrev pub comparison : Span → Cmp → Lowered → Lowered → Lowered
comparison span o a b = if is_int a && is_int b then comparison_of_integers span o a b else comparison_of_pointers span o a b

-- 6.5.13, 6.5.14
abbrev pub both : Span → Lowered → Lowered → Lowered
both span a b = giving_int k.Int span (c.Both (tested a).expr (tested b).expr)

abbrev pub either : Span → Lowered → Lowered → Lowered
either span a b = giving_int k.Int span (c.Either (tested a).expr (tested b).expr)

-- 6.5.5 to 6.5.14; m and n are the sizes of what the operands point at
unfoldable pub binary : Span → t.BinaryOp → Lowered → ℕ → Lowered → ℕ → Lowered
binary span t.Or a m b n = either span a b
binary span t.And a m b n = both span a b
binary span t.BitOr a m b n = in_common span op.BitOr a b
binary span t.BitXor a m b n = in_common span op.BitXor a b
binary span t.BitAnd a m b n = in_common span op.BitAnd a b
binary span t.Eq a m b n = comparison span cmp.Eq a b
binary span t.Ne a m b n = comparison span cmp.Ne a b
binary span t.Lt a m b n = comparison span cmp.Lt a b
binary span t.Gt a m b n = comparison span cmp.Gt a b
binary span t.Le a m b n = comparison span cmp.Le a b
binary span t.Ge a m b n = comparison span cmp.Ge a b
binary span t.Shl a m b n = shift span true a b
binary span t.Shr a m b n = shift span false a b
binary span t.Add a m b n = sum span a m b n
binary span t.Sub a m b n = subtracted span a m b
binary span t.Mul a m b n = in_common span op.Mul a b
binary span t.Div a m b n = in_common span op.Div a b
binary span t.Rem a m b n = in_common span op.Rem a b

-- 6.5.15: two integers in their common kind, pointers, or no values
abbrev pub choice_of_integers : Span → (tested_one : Lowered) → Lowered → Lowered → Lowered
choice_of_integers span x a b = giving_int (common_of a b) span (c.Choose (tested x).expr (as_kind (common_of a b) a).expr (as_kind (common_of a b) b).expr)

abbrev pub choice_of_pointers : Span → (tested_one : Lowered) → Lowered → Lowered → Lowered
choice_of_pointers span x a b = giving scalar.Ptr span (c.Choose (tested x).expr (as_pointer a).expr (as_pointer b).expr)

abbrev pub choice_of_nothing : Span → (tested_one : Lowered) → Lowered → Lowered → Lowered
choice_of_nothing span x a b = giving_nothing span (c.Choose (tested x).expr a.expr b.expr)

unfoldable pub choice : Span → (tested_one : Lowered) → Lowered → Lowered → Lowered
choice span x a b =
    if is_int a && is_int b then choice_of_integers span x a b
    else if is_pointer a || is_pointer b then choice_of_pointers span x a b
    else choice_of_nothing span x a b

-- 6.5.17
unfoldable pub comma : Span → Lowered → Lowered → Lowered
comma span a b = record { expr = c.At span (c.Then a.expr b.expr); gives = b.gives }

-- 6.5.3.3
unfoldable pub positive : Lowered → Lowered
positive a = promote a

unfoldable pub negative : Span → Lowered → Lowered
negative span a = arithmetic span op.Sub (kind_of a) (constant span (kind_of a) (pos 0)) a

unfoldable pub complement : Span → Lowered → Lowered
complement span a = arithmetic span op.BitXor (kind_of a) a (constant span (kind_of a) (negsuc 0))

-- of what gives nothing there is none
abbrev pub negated_given : Span → Option Scalar → Lowered → Lowered
negated_given span None a = constant span k.Int (pos 0)
negated_given span (Some s) a = truth span true a

unfoldable pub negation : Span → Lowered → Lowered
negation span a = negated_given span a.gives a

-- 6.5.4: to a scalar, or to void
unfoldable pub cast : Span → Option Scalar → Lowered → Lowered
cast span None a = record a { gives = None }
cast span (Some s) a = as_scalar_at span s a

-- ---- assignment (6.5.16), where the lvalue stands at a place of the text

abbrev pub stored : Span → (lvalue : Span) → Scalar → (place value : Lowered) → Lowered
stored span lvalue s p e = giving s span (c.Store (as_pointer p).expr lvalue s (as_scalar s e).expr)

unfoldable pub copied : Span → (to : Lowered) → (to_at : Span) → (from : Lowered) → (from_at : Span) → (size : ℕ) → Lowered
copied span p p_at q q_at size = giving_nothing span (c.CopyRecord (as_pointer p).expr p_at (as_pointer q).expr q_at size)

abbrev pub modified : Span → (lvalue : Span) → Scalar → ModifyOp → IntKind → (post : Bool) → (place operand : Lowered) → Lowered
modified span lvalue s o common post p e = giving s span (c.Modify (as_pointer p).expr lvalue s o e.expr common post)

-- 6.5.16.2: the operator of a compound assignment
pub data Compound : Type 0 where
  plain : Compound
  arithmetic_by : Op → Compound
  shift_by : (left : Bool) → Compound

abbrev pub compound_of : t.AssignOp → Compound
compound_of t.Set = plain
compound_of t.MulSet = arithmetic_by op.Mul
compound_of t.DivSet = arithmetic_by op.Div
compound_of t.RemSet = arithmetic_by op.Rem
compound_of t.AddSet = arithmetic_by op.Add
compound_of t.SubSet = arithmetic_by op.Sub
compound_of t.ShlSet = shift_by true
compound_of t.ShrSet = shift_by false
compound_of t.AndSet = arithmetic_by op.BitAnd
compound_of t.XorSet = arithmetic_by op.BitXor
compound_of t.OrSet = arithmetic_by op.BitOr

-- an integer of a kind is computed in the common kind of both; a shift in its own promoted kind
abbrev pub assigned_int : Span → Span → IntKind → Compound → (place value : Lowered) → Lowered
assigned_int span lvalue kind plain p e = stored span lvalue (scalar.Int kind) p e
assigned_int span lvalue kind (arithmetic_by o) p e =
    modified span lvalue (scalar.Int kind) (modify.Arith o) (common_kind (promoted kind) (kind_of e)) false p (as_kind (common_kind (promoted kind) (kind_of e)) e)
assigned_int span lvalue kind (shift_by left) p e = modified span lvalue (scalar.Int kind) (modify.ShiftBits left) (promoted kind) false p (promote e)

abbrev pub is_sub : t.AssignOp → Bool
is_sub t.SubSet = true
is_sub o = false

-- a pointer is set, or moved by elements of a size
abbrev pub assigned_pointer : Span → Span → t.AssignOp → (size : ℕ) → (place value : Lowered) → Lowered
assigned_pointer span lvalue t.Set size p e = stored span lvalue scalar.Ptr p e
assigned_pointer span lvalue o size p e = modified span lvalue scalar.Ptr (modify.PtrAdd size (is_sub o)) (kind_of e) false p (promote e)

unfoldable pub assigned : Span → (lvalue : Span) → Scalar → t.AssignOp → (size : ℕ) → (place value : Lowered) → Lowered
assigned span lvalue (scalar.Int kind) o size p e = assigned_int span lvalue kind (compound_of o) p e
assigned span lvalue scalar.Ptr o size p e = assigned_pointer span lvalue o size p e

-- 6.5.2.4, 6.5.3.1: one more or less, of an integer or of a pointer to elements of a size
abbrev pub step_op : (down : Bool) → Op
step_op true = op.Sub
step_op false = op.Add

unfoldable pub stepped : Span → (lvalue : Span) → Scalar → (down post : Bool) → (size : ℕ) → (place : Lowered) → Lowered
stepped span lvalue (scalar.Int kind) down post size p =
    modified span lvalue (scalar.Int kind) (modify.Arith (step_op down)) (common_kind (promoted kind) k.Int) post p (constant span (common_kind (promoted kind) k.Int) (pos 1))
stepped span lvalue scalar.Ptr down post size p =
    modified span lvalue scalar.Ptr (modify.PtrAdd size down) k.Int post p (constant span k.Int (pos 1))
