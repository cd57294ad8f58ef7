-- The reader: one step for each token, from a state with what is open.
use Rattle.std.specs.Prelude.{List, [], ◌∷◌, Option, Some, None}
use Rattle.c_tree.specs.Tok.{Tok}
use Rattle.c_tree.specs.Tree.{External}
use Rattle.c_tree.specs.Wf.{Env}
use Rattle.c_reader.specs.Symbol.{Symbol, tok_symbol}
use Rattle.c_reader.specs.Inside.{SpecsMode, in_specs, after_tagged, after_tag, want_field, want_enumerator, after_enumerator, want_param, DeclaratorMode, want_declarator, after_star, declarator_opened, after_declarator, array_opened, params_opened, of_declaration, of_external, of_param, Mode, want_external, in_attribute, specs, declarator, after_attributes, want_init, after_init, expr, stmt, State}
use Rattle.c_reader.specs.Begin.{first_spec}
use Rattle.c_reader.specs.Declarations.{item_next, init_begin, init_next}
use Rattle.c_reader.specs.Declarators.{declarator_begin, star_next, opened_next, declarator_next, array_next, params_next}
use Rattle.c_reader.specs.Specs.{specs_next, tagged_next, tag_next, field_begin, enumerator_begin, enumerator_next, attribute_next}
use Rattle.c_reader.specs.Exprs.{expr_next}
use Rattle.c_reader.specs.Stmts.{stmt_mode_next}

abbrev pub specs_mode_next : Env → SpecsMode → Symbol → Option State
specs_mode_next env (in_specs s k) y = specs_next env s k y
specs_mode_next env (after_tagged g s k) y = tagged_next env g s k y
specs_mode_next env (after_tag g n s k) y = tag_next env g n s k y
specs_mode_next env (want_field f) y = field_begin env f y
specs_mode_next env (want_enumerator e) y = enumerator_begin env e y
specs_mode_next env (after_enumerator n e) y = enumerator_next env n e y
specs_mode_next env (want_param p) y = first_spec env (of_param p) y

abbrev pub declarator_mode_next : Env → DeclaratorMode → Symbol → Option State
declarator_mode_next env (want_declarator k) y = declarator_begin env k y
declarator_mode_next env (after_star qs k) y = star_next env qs k y
declarator_mode_next env (declarator_opened k) y = opened_next env k y
declarator_mode_next env (after_declarator k d) y = declarator_next env k d y
declarator_mode_next env (array_opened d k) y = array_next env d k y
declarator_mode_next env (params_opened d k) y = params_next env d k y

abbrev pub step_at : Env → Mode → Symbol → Option State
step_at env (want_external done) y = first_spec env (of_declaration (of_external done)) y
step_at env (in_attribute m a) y = attribute_next env a m y
step_at env (specs m) y = specs_mode_next env m y
step_at env (declarator m) y = declarator_mode_next env m y
step_at env (after_attributes r) y = item_next env r y
step_at env (want_init k) y = init_begin env k y
step_at env (after_init k i) y = init_next env k i y
step_at env (expr m) y = expr_next env m y
step_at env (stmt m) y = stmt_mode_next env m y

abbrev pub step : State → Symbol → Option State
step s y = step_at s.env s.mode y

-- ---- the whole

-- where the tokens led, or the first token that no step takes, with those after it
pub data Read : Type 0 where
  reached : State → Read
  stuck : List Tok → Read

abbrev pub step_tok : State → Option Symbol → Option State
step_tok s None = None
step_tok s (Some y) = step s y

abbrev pub on_step : Tok → List Tok → Option State → (State → Read) → Read
on_step t ts None f = stuck (t ∷ ts)
on_step t ts (Some s) f = f s

abbrev pub run : State → List Tok → Read
run s [] = reached s
run s (t ∷ ts) = on_step t ts (step_tok s (tok_symbol t)) (λ after. run after ts)

abbrev pub begin : State
begin = record { env = []; mode = want_external [] }

-- the unit, where the tokens may end
abbrev pub unit_at : Mode → Option (List External)
unit_at (want_external done) = Some done
unit_at _ = None

-- the unit that the tokens spell, or what is left where they go wrong
pub data Answer : Type 0 where
  unit : List External → Answer
  wrong : List Tok → Answer

abbrev pub answer_end : Option (List External) → Answer
answer_end (Some u) = unit u
answer_end None = wrong []

abbrev pub answer : Read → Answer
answer (reached s) = answer_end (unit_at s.mode)
answer (stuck ts) = wrong ts

abbrev pub read : List Tok → Answer
read ts = answer (run begin ts)
