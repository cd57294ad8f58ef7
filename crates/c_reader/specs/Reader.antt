-- The reader with the place and the number of each node: the machine of Machine.antt over trees that have them. It stops where
-- no flat unit begins with the tokens so far.
-- n is the number of the next node, e the end of the last token, and s the span of the token that is read.
use Rattle.std.specs.Prelude.{ℕ, nat_le, Bool, if◌then◌else◌, List, [], ◌∷◌, Option, Some, None}
use Rattle.tok_base.specs.declared.token.Span.{Span}
use Rattle.tok_base.specs.declared.token.Token.{Token}
use Rattle.c_tree.specs.Marked.{External}
use Rattle.c_tree.specs.Wf.{Env}
use Rattle.c_reader.specs.Symbol.{Symbol, symbol}
use Rattle.c_reader.specs.MarkedInside.{SpecsMode, in_specs, after_tagged, after_tag, want_field, want_enumerator, after_enumerator, want_param, DeclaratorMode, want_declarator, after_star, declarator_opened, after_declarator, array_opened, params_opened, of_declaration, of_external, of_param, Mode, want_external, in_attribute, specs, declarator, after_attributes, want_init, after_init, expr, stmt, height, Next}
use Rattle.c_reader.specs.MarkedBegin.{first_spec}
use Rattle.c_reader.specs.MarkedDeclarations.{item_next, init_begin, init_next}
use Rattle.c_reader.specs.MarkedDeclarators.{declarator_begin, star_next, opened_next, declarator_next, array_next, params_next}
use Rattle.c_reader.specs.MarkedSpecs.{specs_next, tagged_next, tag_next, field_begin, enumerator_begin, enumerator_next, attribute_next}
use Rattle.c_reader.specs.MarkedExprs.{expr_next}
use Rattle.c_reader.specs.MarkedStmts.{stmt_mode_next}

abbrev pub specs_mode_next : ℕ → ℕ → Env → SpecsMode → Symbol → Span → Option Next
specs_mode_next n e env (in_specs ss k) y s = specs_next n e env ss k y s
specs_mode_next n e env (after_tagged o g ss k) y s = tagged_next n env o g ss k y
specs_mode_next n e env (after_tag o g x ss k) y s = tag_next n e env o g x ss k y s
specs_mode_next n e env (want_field f) y s = field_begin n env f y s
specs_mode_next n e env (want_enumerator k) y s = enumerator_begin n env k y s
specs_mode_next n e env (after_enumerator o x k) y s = enumerator_next n e env o x k y s
specs_mode_next n e env (want_param p) y s = first_spec n env (of_param p) y s

abbrev pub declarator_mode_next : ℕ → ℕ → Env → DeclaratorMode → Symbol → Span → Option Next
declarator_mode_next n e env (want_declarator k) y s = declarator_begin n e env k y s
declarator_mode_next n e env (after_star o qs k) y s = star_next n e env o qs k y s
declarator_mode_next n e env (declarator_opened o k) y s = opened_next n e env o k y s
declarator_mode_next n e env (after_declarator h k x) y s = declarator_next n e env h k x y s
declarator_mode_next n e env (array_opened o x k) y s = array_next n env o x k y s
declarator_mode_next n e env (params_opened o x k) y s = params_next n env o x k y s

abbrev pub step_at : ℕ → ℕ → Env → Mode → Symbol → Span → Option Next
step_at n e env (want_external deep done) y s = first_spec n env (of_declaration (of_external deep done)) y s
step_at n e env (in_attribute o m a) y s = attribute_next n e env o a m y s
step_at n e env (specs m) y s = specs_mode_next n e env m y s
step_at n e env (declarator m) y s = declarator_mode_next n e env m y s
step_at n e env (after_attributes r) y s = item_next n e env r y s
step_at n e env (want_init k) y s = init_begin n env k y s
step_at n e env (after_init d k i) y s = init_next n e env d k i y s
step_at n e env (expr m) y s = expr_next n e env m y s
step_at n e env (stmt m) y s = stmt_mode_next n e env m y s

-- ---- the whole

abbrev pub begin : Next
begin = record { id = 0; env = []; mode = want_external 0 [] }

abbrev pub step : Next → ℕ → Option Symbol → Span → Option Next
step a e None s = None
step a e (Some y) s = step_at a.id e a.env a.mode y s

abbrev pub token_step : Next → ℕ → Token → Option Next
token_step a e x = step a e (symbol (record { kind = x.kind; text = x.text })) x.span

-- where the tokens led; the first token that no step takes, with those after it; or those after the first token with which no flat unit begins
pub data Read : Type 0 where
  reached : Next → Read
  stuck : List Token → Read
  too_deep : List Token → Read

abbrev pub is_low : Next → Bool
is_low a = nat_le (height a.mode) 200

abbrev pub on_step : Token → List Token → Option Next → (Next → Read) → Read
on_step x xs None f = stuck (x ∷ xs)
on_step x xs (Some a) f = if is_low a then f a else too_deep xs

-- e is the end of the token before them
abbrev pub run : Next → ℕ → List Token → Read
run a e [] = reached a
run a e (x ∷ xs) = on_step x xs (token_step a e x) (λ after. run after x.span.end xs)

-- the unit, where the tokens may end
abbrev pub unit_at : Mode → Option (List External)
unit_at (want_external deep done) = Some done
unit_at _ = None

-- the unit that the tokens spell, or what is left where they go wrong or too deep
pub data Answer : Type 0 where
  unit : List External → Answer
  wrong : List Token → Answer
  deep : List Token → Answer

abbrev pub answer_end : Option (List External) → Answer
answer_end (Some u) = unit u
answer_end None = wrong []

abbrev pub answer : Read → Answer
answer (reached a) = answer_end (unit_at a.mode)
answer (stuck xs) = wrong xs
answer (too_deep xs) = deep xs

abbrev pub read : List Token → Answer
read xs = answer (run begin 0 xs)
