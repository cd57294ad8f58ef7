-- The first token of specs, and the first of an expression, with places and numbers.
-- Here and in the files that follow: n is the number of the next node, e the end of the last token, and s the span of
-- the token that is read; o is the node that is open, h the part that was read, and d a depth.
use Rattle.std.specs.Prelude.{ℕ, suc, false, if◌then◌else◌, [], ◌∷◌, Option, Some, None}
use Rattle.tok_base.specs.declared.token.Span.{Span}
use Rattle.c_tree.specs.Tree.{PrefixOp}
use Rattle.c_tree.specs.Marked as u
use Rattle.c_tree.specs.Wf.{Env, is_type}
use Rattle.c_reader.specs.Symbol as t
use Rattle.c_reader.specs.Symbol.{Symbol, keyword_word}
use Rattle.c_reader.specs.Begin.{begins_specs, operator_prefix}
use Rattle.c_reader.specs.MarkedParts.{mark, opens, leaf, SpecsRead, typedef_name, no_specs, add_keyword, add_type}
use Rattle.c_reader.specs.MarkedInside.{InExpr, InSpecs, of_prefix, in_operand, of_specs, attribute_word, in_specs, after_tagged, want_expr, after_expr, after_text, opened, after_sizeof, after_builtin, in_attribute, specs, expr, around_expr, specs_level, Next, go_on}

-- ---- specs

-- a token that begins specs, or goes on with them
abbrev pub open_spec : ℕ → Env → SpecsRead → InSpecs → Symbol → Span → Option Next
open_spec n env ss k (t.name x) s = go_on n env (specs (in_specs (add_type ss 0 (typedef_name x)) k))
open_spec n env ss k (t.keyword w) s = go_on n env (specs (in_specs (add_keyword ss (keyword_word w)) k))
open_spec n env ss k (t.tagged g) s = go_on n env (specs (after_tagged (opens ss.node.level s.start) g ss k))
open_spec n env ss k t.attribute s = go_on n env (in_attribute (opens ss.node.level s.start) attribute_word (of_specs ss k))
open_spec n env ss k _ s = None

-- the first of them
abbrev pub begin_specs : ℕ → Env → InSpecs → Symbol → Span → Option Next
begin_specs n env k y s = open_spec n env (no_specs (opens (specs_level k) s.start)) k y s

-- specs must stand here
abbrev pub first_spec : ℕ → Env → InSpecs → Symbol → Span → Option Next
first_spec n env k y s = if begins_specs env false y then begin_specs n env k y s else None

-- ---- expressions

abbrev pub want_operand : ℕ → Env → InExpr → Option PrefixOp → Span → Option Next
want_operand n env k None s = None
want_operand n env k (Some o) s = go_on n env (expr (want_expr (in_operand (opens (around_expr k).level s.start) (of_prefix o) k)))

abbrev pub want : ℕ → Env → InExpr → Symbol → Span → Option Next
want n env k (t.name x) s = if is_type env x then None else go_on (suc n) env (expr (after_expr (leaf s.start) k (u.Name (mark s.start s.end n) x)))
want n env k (t.number x) s = go_on (suc n) env (expr (after_expr (leaf s.start) k (u.Number (mark s.start s.end n) x)))
want n env k (t.char x) s = go_on (suc n) env (expr (after_expr (leaf s.start) k (u.Char (mark s.start s.end n) x)))
want n env k (t.text x) s = go_on n env (expr (after_text s.start k (x ∷ [])))
want n env k (t.operator o) s = want_operand n env k (operator_prefix o) s
want n env k t.lparen s = go_on n env (expr (opened (opens (around_expr k).level s.start) k))
want n env k t.sizeof s = go_on n env (expr (after_sizeof (opens (around_expr k).level s.start) k))
want n env k t.builtin s = go_on n env (expr (after_builtin (opens (around_expr k).level s.start) k))
want n env k _ s = None
