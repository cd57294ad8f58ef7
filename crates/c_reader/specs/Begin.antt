-- The first token of specs, and the first of an expression.
use Rattle.std.specs.Prelude.{Bool, true, false, if◌then◌else◌, List, [], ◌∷◌, Option, Some, None}
use Rattle.c_tree.specs.Tree as u
use Rattle.c_tree.specs.Tree.{BinaryOp, PrefixOp, Step}
use Rattle.c_tree.specs.Wf.{Env, is_type}
use Rattle.c_reader.specs.Symbol as t
use Rattle.c_reader.specs.Symbol.{Symbol, Operator, Negation, keyword_word}
use Rattle.c_reader.specs.Parts.{SpecsRead, typedef_name, no_specs, add_keyword, add_type}
use Rattle.c_reader.specs.Inside.{InExpr, InSpecs, of_prefix, in_operand, of_specs, attribute_word, in_specs, after_tagged, want_expr, after_expr, after_text, opened, after_sizeof, after_builtin, in_attribute, specs, expr, State, at}

abbrev pub is_empty : {A : Type 0} → List A → Bool
is_empty [] = true
is_empty (x ∷ xs) = false

-- ---- specs; seen: a type specifier stands before

abbrev pub begins_specs : Env → Bool → Symbol → Bool
begins_specs env seen (t.name n) = if seen then false else is_type env n
begins_specs env seen (t.keyword w) = true
begins_specs env seen (t.tagged g) = true
begins_specs env seen t.attribute = true
begins_specs env seen _ = false

-- a token that begins specs, or goes on with them
abbrev pub open_spec : Env → SpecsRead → InSpecs → Symbol → Option State
open_spec env s k (t.name n) = at env (specs (in_specs (add_type s (typedef_name n)) k))
open_spec env s k (t.keyword w) = at env (specs (in_specs (add_keyword s (keyword_word w)) k))
open_spec env s k (t.tagged g) = at env (specs (after_tagged g s k))
open_spec env s k t.attribute = at env (in_attribute attribute_word (of_specs s k))
open_spec env s k _ = None

-- specs must stand here
abbrev pub first_spec : Env → InSpecs → Symbol → Option State
first_spec env k y = if begins_specs env false y then open_spec env no_specs k y else None

-- ---- expressions

abbrev pub binary_prefix : BinaryOp → Option PrefixOp
binary_prefix u.BitAnd = Some u.Address
binary_prefix u.Mul = Some u.Deref
binary_prefix u.Add = Some u.Positive
binary_prefix u.Sub = Some u.Negative
binary_prefix _ = None

abbrev pub step_prefix : Step → PrefixOp
step_prefix u.PostIncrement = u.Increment
step_prefix u.PostDecrement = u.Decrement

abbrev pub negation_prefix : Negation → PrefixOp
negation_prefix t.Complement = u.Complement
negation_prefix t.Not = u.Not

-- the operator before an operand that a mark is
abbrev pub operator_prefix : Operator → Option PrefixOp
operator_prefix (t.binary o) = binary_prefix o
operator_prefix (t.assign o) = None
operator_prefix (t.step o) = Some (step_prefix o)
operator_prefix (t.negation o) = Some (negation_prefix o)
operator_prefix t.question = None
operator_prefix (t.member o) = None

abbrev pub want_operand : Env → InExpr → Option PrefixOp → Option State
want_operand env k None = None
want_operand env k (Some o) = at env (expr (want_expr (in_operand (of_prefix o) k)))

abbrev pub want : Env → InExpr → Symbol → Option State
want env k (t.name n) = if is_type env n then None else at env (expr (after_expr k (u.Name n)))
want env k (t.number n) = at env (expr (after_expr k (u.Number n)))
want env k (t.char n) = at env (expr (after_expr k (u.Char n)))
want env k (t.text n) = at env (expr (after_text k (n ∷ [])))
want env k (t.operator o) = want_operand env k (operator_prefix o)
want env k t.lparen = at env (expr (opened k))
want env k t.sizeof = at env (expr (after_sizeof k))
want env k t.builtin = at env (expr (after_builtin k))
want env k _ = None
