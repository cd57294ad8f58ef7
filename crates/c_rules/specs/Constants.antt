-- The values of integer constant expressions (ISO/IEC 9899:2018, 6.6). What isn't evaluated does no harm, but is a constant
-- expression too.
use Rattle.std.specs.Prelude.{Bool, true, false, not, if◌then◌else◌, ℤ, pos, negsuc, Result, Ok, Err}
use Rattle.num_ops.specs.declared.kinds.IntKind.{IntKind}
use Rattle.num_ops.specs.declared.arithmetic.Op.{Op}
use Rattle.num_ops.specs.declared.arithmetic.Op.TheVariants as op
use Rattle.num_ops.specs.declared.arithmetic.Undefined.{Undefined}
use Rattle.num_ops.specs.declared.shifts.Cmp.{Cmp}
use Rattle.num_ops.specs.Arithmetic.{arithmetic, shifted, compared}
use Rattle.num_ops.specs.Conversions.{converted, common_kind, promoted, is_zero}
use Rattle.c_rules.specs.Typed.{Constant, varies, undefined, is}

abbrev pub constant_from : Result ℤ Undefined → Constant
constant_from (Ok z) = is z
constant_from (Err cause) = undefined

-- of one operand
abbrev pub of_one : (ℤ → Constant) → Constant → Constant
of_one f (is z) = f z
of_one f varies = varies
of_one f undefined = undefined

-- of two operands that are both evaluated
abbrev pub of_both : (ℤ → ℤ → Constant) → Constant → Constant → Constant
of_both f (is a) (is b) = f a b
of_both f (is a) undefined = undefined
of_both f (is a) varies = varies
of_both f undefined (is b) = undefined
of_both f undefined undefined = undefined
of_both f undefined varies = varies
of_both f varies b = varies

abbrev pub truth : Bool → ℤ
truth true = pos 1
truth false = pos 0

-- ---- operators, of operands of these kinds

-- 6.5.5, 6.5.6, 6.5.10 to 6.5.12: after the usual arithmetic conversions
abbrev pub arithmetic_of : Op → IntKind → IntKind → Constant → Constant → Constant
arithmetic_of o p q a b =
    of_both (λ x y. constant_from (arithmetic o (common_kind p q) (converted (common_kind p q) x) (converted (common_kind p q) y))) a b

-- 6.5.7: each operand is promoted
abbrev pub shift_of : Bool → IntKind → IntKind → Constant → Constant → Constant
shift_of left p q a b = of_both (λ x y. constant_from (shifted left (promoted p) x y)) a b

-- 6.5.8, 6.5.9
abbrev pub comparison_of : Cmp → IntKind → IntKind → Constant → Constant → Constant
comparison_of c p q a b =
    of_both (λ x y. is (truth (compared c (converted (common_kind p q) x) (converted (common_kind p q) y)))) a b

-- 6.5.13, 6.5.14: where the first operand decides, the second isn't evaluated
abbrev pub unless_varies : Constant → Constant → Constant
unless_varies varies c = varies
unless_varies undefined c = c
unless_varies (is z) c = c

abbrev pub as_truth : Constant → Constant
as_truth c = of_one (λ z. is (truth (not (is_zero z)))) c

abbrev pub and_of : Constant → Constant → Constant
and_of (is a) b = if is_zero a then unless_varies b (is (pos 0)) else as_truth b
and_of undefined b = unless_varies b undefined
and_of varies b = varies

abbrev pub or_of : Constant → Constant → Constant
or_of (is a) b = if is_zero a then as_truth b else unless_varies b (is (pos 1))
or_of undefined b = unless_varies b undefined
or_of varies b = varies

-- 6.5.15: one of the branches is evaluated, and its value converted to their common type
abbrev pub cond_of : IntKind → Constant → Constant → Constant → Constant
cond_of kind varies a b = varies
cond_of kind undefined a b = unless_varies a (unless_varies b undefined)
cond_of kind (is c) a b =
    unless_varies a (unless_varies b (of_one (λ z. is (converted kind z)) (if is_zero c then b else a)))

-- 6.5.3.3: the operand is promoted; ~ turns each bit
abbrev pub minus_of : IntKind → Constant → Constant
minus_of kind a = of_one (λ z. constant_from (arithmetic op.Sub (promoted kind) (pos 0) z)) a

abbrev pub complement_of : IntKind → Constant → Constant
complement_of kind a =
    of_one (λ z. constant_from (arithmetic op.BitXor (promoted kind) z (converted (promoted kind) (negsuc 0)))) a

abbrev pub not_of : Constant → Constant
not_of a = of_one (λ z. is (truth (is_zero z))) a

-- 6.5.4: a cast to an integer type
abbrev pub cast_of : IntKind → Constant → Constant
cast_of kind a = of_one (λ z. is (converted kind z)) a
