-- The trials of one node stand at its end, by their rules.
use Rattle.std.proofs.Common.{ℕ, suc, ◌+◌, ◌*◌, ◌≤◌, Bool, List, [], ◌∷◌, Option, Some, None, arith}
use Rattle.c_tree.specs.declared.operator.At.{At}
use Rattle.c_tree.specs.Marked as t
use Rattle.c_tree.specs.Tree.{BinaryOp, Or, And, BitOr, BitXor, BitAnd, Eq, Ne, Lt, Gt, Le, Ge, Shl, Shr, Add, Sub, Mul, Div, Rem, PrefixOp, Increment, Decrement, Address, Deref, Positive, Negative, Complement, Not}
use Rattle.c_types.specs.CTypes.{CType, CTypes, no_types, one_type}
use Rattle.c_types.specs.Plain.{plain, parameters_of, result_of}
use Rattle.c_rules.specs.Types.{pointee, settled}
use Rattle.c_rules.specs.Typed.{Typed, value_of}
use Rattle.c_rules.specs.World.{World}
use Rattle.c_rules.specs.Trials.{Trials, tried, over, M}
use Rattle.c_rules.specs.Order.{InOrder}
use Rattle.c_rules.specs.Forms.{Whole, Given, done, judge_name, judge_number, judge_char, judge_text, judge_paren, judge_step, judge_prefix, judge_sizeof, judge_cast, judge_binary, judge_index, judge_comma, judge_cond, judge_assign, convert_all, judge_call, judge_dot, judge_arrow}
use Rattle.c_rules.specs.Walk.{judge_builtin}

pub lower : (j k : ℕ) (ts : Trials) → j ≤ k → InOrder k ts → InOrder j ts
lower j k (over w) h o = tt
lower j k (tried moment rule at kept more) h o = (omega (arith, h, o.0), o.1)

-- from one place on the trials of m stand in order, where those behind them do so from another place on
abbrev pub Runs : (A : Type 0) → (least last : ℕ) → M A → Type 0
Runs A least last m = (k : A → World → Trials) → ((x : A) (w : World) → InOrder last (k x w)) → (w : World) → InOrder least (m k w)

-- at the end of the node
abbrev pub RunsAt : (A : Type 0) → At → M A → Type 0
RunsAt A at m = Runs A (128 * at.id + 64) (128 * suc at.id) m

pub name_runs : (u : Whole) (at : At) (n : List ℕ) → RunsAt Typed at (judge_name u at n)
name_runs u at n k after w = (omega arith, (omega arith, lower _ (128 * suc at.id) _ (omega arith) (after _ _)))

pub number_runs : (at : At) (n : List ℕ) → RunsAt Typed at (judge_number at n)
number_runs at n k after w = (omega arith, (omega arith, lower _ (128 * suc at.id) _ (omega arith) (after _ _)))

pub char_runs : (at : At) (c : List ℕ) → RunsAt Typed at (judge_char at c)
char_runs at c k after w = (omega arith, lower _ (128 * suc at.id) _ (omega arith) (after _ _))

pub text_runs : (at : At) (ts : List (List ℕ)) → RunsAt Typed at (judge_text at ts)
text_runs at ts k after w = (omega arith, lower _ (128 * suc at.id) _ (omega arith) (after _ _))

pub paren_runs : (at : At) (x : Typed) → RunsAt Typed at (judge_paren at x)
paren_runs at x k after w = (omega arith, lower _ (128 * suc at.id) _ (omega arith) (after _ _))

pub step_runs : (at : At) (x : Typed) → RunsAt Typed at (judge_step at x)
step_runs at x k after w = (omega arith, (omega arith, lower _ (128 * suc at.id) _ (omega arith) (after _ _)))

pub sizeof_runs : (at : At) (ty : CType) → RunsAt Typed at (judge_sizeof at ty)
sizeof_runs at ty k after w = (omega arith, (omega arith, lower _ (128 * suc at.id) _ (omega arith) (after _ _)))

pub cast_runs : (at : At) (ty : CType) (x : Typed) → RunsAt Typed at (judge_cast at ty x)
cast_runs at ty x k after w = (omega arith, (omega arith, lower _ (128 * suc at.id) _ (omega arith) (after _ _)))

pub index_runs : (at : At) (x y : Typed) → RunsAt Typed at (judge_index at x y)
index_runs at x y k after w = (omega arith, (omega arith, lower _ (128 * suc at.id) _ (omega arith) (after _ _)))

pub comma_runs : (at : At) (y : Typed) → RunsAt Typed at (judge_comma at y)
comma_runs at y k after w = (omega arith, lower _ (128 * suc at.id) _ (omega arith) (after _ _))

pub cond_runs : (at : At) (c x y : Typed) → RunsAt Typed at (judge_cond at c x y)
cond_runs at c x y k after w = (omega arith, (omega arith, (omega arith, lower _ (128 * suc at.id) _ (omega arith) (after _ _))))

pub dot_runs : (at : At) (x : Typed) (n : List ℕ) → RunsAt Typed at (judge_dot at x n)
dot_runs at x n k after w = (omega arith, (omega arith, lower _ (128 * suc at.id) _ (omega arith) (after _ _)))

pub arrow_runs : (at : At) (x : Typed) (n : List ℕ) → RunsAt Typed at (judge_arrow at x n)
arrow_runs at x n k after w = (omega arith, (omega arith, lower _ (128 * suc at.id) _ (omega arith) (after _ _)))

pub builtin_runs : (fixed : Bool) (at : At) (xs : t.Exprs) → RunsAt Typed at (judge_builtin fixed at xs)
builtin_runs fixed at xs k after w = (omega arith, (omega arith, lower _ (128 * suc at.id) _ (omega arith) (after _ _)))

pub prefix_runs : (at : At) (o : PrefixOp) (x : Typed) → RunsAt Typed at (judge_prefix at o x)
prefix_runs at Increment x k after w = (omega arith, (omega arith, lower _ (128 * suc at.id) _ (omega arith) (after _ _)))
prefix_runs at Decrement x k after w = (omega arith, (omega arith, lower _ (128 * suc at.id) _ (omega arith) (after _ _)))
prefix_runs at Address x k after w = (omega arith, (omega arith, lower _ (128 * suc at.id) _ (omega arith) (after _ _)))
prefix_runs at Deref x k after w = (omega arith, (omega arith, lower _ (128 * suc at.id) _ (omega arith) (after _ _)))
prefix_runs at Positive x k after w = (omega arith, (omega arith, lower _ (128 * suc at.id) _ (omega arith) (after _ _)))
prefix_runs at Negative x k after w = (omega arith, (omega arith, lower _ (128 * suc at.id) _ (omega arith) (after _ _)))
prefix_runs at Complement x k after w = (omega arith, (omega arith, lower _ (128 * suc at.id) _ (omega arith) (after _ _)))
prefix_runs at Not x k after w = (omega arith, (omega arith, lower _ (128 * suc at.id) _ (omega arith) (after _ _)))

pub binary_runs : (at : At) (o : BinaryOp) (x y : Typed) → RunsAt Typed at (judge_binary at o x y)
binary_runs at Or x y k after w = (omega arith, (omega arith, lower _ (128 * suc at.id) _ (omega arith) (after _ _)))
binary_runs at And x y k after w = (omega arith, (omega arith, lower _ (128 * suc at.id) _ (omega arith) (after _ _)))
binary_runs at BitOr x y k after w = (omega arith, (omega arith, lower _ (128 * suc at.id) _ (omega arith) (after _ _)))
binary_runs at BitXor x y k after w = (omega arith, (omega arith, lower _ (128 * suc at.id) _ (omega arith) (after _ _)))
binary_runs at BitAnd x y k after w = (omega arith, (omega arith, lower _ (128 * suc at.id) _ (omega arith) (after _ _)))
binary_runs at Eq x y k after w = (omega arith, (omega arith, lower _ (128 * suc at.id) _ (omega arith) (after _ _)))
binary_runs at Ne x y k after w = (omega arith, (omega arith, lower _ (128 * suc at.id) _ (omega arith) (after _ _)))
binary_runs at Lt x y k after w = (omega arith, (omega arith, lower _ (128 * suc at.id) _ (omega arith) (after _ _)))
binary_runs at Gt x y k after w = (omega arith, (omega arith, lower _ (128 * suc at.id) _ (omega arith) (after _ _)))
binary_runs at Le x y k after w = (omega arith, (omega arith, lower _ (128 * suc at.id) _ (omega arith) (after _ _)))
binary_runs at Ge x y k after w = (omega arith, (omega arith, lower _ (128 * suc at.id) _ (omega arith) (after _ _)))
binary_runs at Shl x y k after w = (omega arith, (omega arith, lower _ (128 * suc at.id) _ (omega arith) (after _ _)))
binary_runs at Shr x y k after w = (omega arith, (omega arith, lower _ (128 * suc at.id) _ (omega arith) (after _ _)))
binary_runs at Add x y k after w = (omega arith, (omega arith, lower _ (128 * suc at.id) _ (omega arith) (after _ _)))
binary_runs at Sub x y k after w = (omega arith, (omega arith, lower _ (128 * suc at.id) _ (omega arith) (after _ _)))
binary_runs at Mul x y k after w = (omega arith, (omega arith, lower _ (128 * suc at.id) _ (omega arith) (after _ _)))
binary_runs at Div x y k after w = (omega arith, (omega arith, lower _ (128 * suc at.id) _ (omega arith) (after _ _)))
binary_runs at Rem x y k after w = (omega arith, (omega arith, lower _ (128 * suc at.id) _ (omega arith) (after _ _)))

pub assign_runs : (at : At) (o : Option BinaryOp) (x : Typed) (y_at : At) (y : Typed) → RunsAt Typed at (judge_assign at o x y_at y)
assign_runs at None x y_at y k after w = (omega arith, (omega arith, (omega arith, lower _ (128 * suc at.id) _ (omega arith) (after _ _))))
assign_runs at (Some o) x y_at y k after w = (omega arith, (omega arith, lower _ (128 * suc at.id) _ (omega arith) (after _ _)))

-- converting arguments tries nothing
pub convert_all_runs : (ps : CTypes) (xs : List Given) (least : ℕ) → Runs (Unit {0}) least least (convert_all ps xs)
convert_all_runs no_types xs least k after w = after _ _
convert_all_runs (one_type p ps) [] least k after w = after _ _
convert_all_runs (one_type p ps) (x ∷ xs) least k after w = convert_all_runs ps xs least k after _

pub call_runs : (at : At) (f : Typed) (xs : List Given) → RunsAt Typed at (judge_call at f xs)
call_runs at f xs k after w =
    (omega arith, (omega arith, convert_all_runs (parameters_of (plain (pointee (settled f.type)))) xs (suc (64 * suc (2 * at.id) + 27)) (λ _. done at (value_of (result_of (plain (pointee (settled f.type))))) k) (λ x v. (omega arith, lower _ (128 * suc at.id) _ (omega arith) (after _ _))) w))
