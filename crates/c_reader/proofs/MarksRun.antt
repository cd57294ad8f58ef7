-- The nodes that the reader makes have the numbers and places that they should have.
use Rattle.std.proofs.Common.{ℕ, List, [], ◌∷◌, map, Option, Some, None, refl, subst}
use Rattle.tok_base.specs.declared.token.Span.{Span}
use Rattle.tok_base.specs.declared.token.Token.{Token}
use Rattle.c_lexer.specs.Lexeme.{lexeme_of}
use Rattle.c_tree.specs.Places.{Numbered, Placed}
use Rattle.c_tree.specs.Pieces.{pieces_unit}
use Rattle.c_tree.specs.Wf.{Env}
use Rattle.c_reader.specs.Symbol.{Symbol, symbol}
use Rattle.c_reader.specs.MarkedInside.{SpecsMode, in_specs, after_tagged, after_tag, want_field, want_enumerator, after_enumerator, want_param, DeclaratorMode, want_declarator, after_star, declarator_opened, after_declarator, array_opened, params_opened, of_declaration, of_external, of_param, Mode, want_external, in_attribute, specs, declarator, after_attributes, want_init, after_init, expr, stmt, Next}
use Rattle.c_reader.specs.Reader as r
use Rattle.c_reader.specs.MarkedLaws.{IsMarked}
use Rattle.c_reader.proofs.Marks.{Spot, spot, by_test}
use Rattle.c_reader.proofs.MarksAt.{AtUnit, AtSpecsMode, AtDeclaratorMode, At, Good}
use Rattle.c_reader.proofs.MarksDeclarations.{first_spec_at, item_at, init_at, init_begin_at}
use Rattle.c_reader.proofs.MarksDeclarators.{declarator_begin_at, star_at, opened_at, array_at, params_next_at, declarator_at}
use Rattle.c_reader.proofs.MarksSpecs.{specs_at, tagged_at, tag_at, field_begin_at, enumerator_begin_at, enumerator_at, attribute_at}
use Rattle.c_reader.proofs.MarksExprs.{expr_at}
use Rattle.c_reader.proofs.MarksStmts.{stmt_at}

-- ---- each step

specs_mode_at : (z : Spot) (n e : ℕ) (env : Env) (c : SpecsMode) (y : Symbol) (s : Span) (left : List Span)
    → AtSpecsMode z c (spot n e (s ∷ left)) → Good z s.end left (r.specs_mode_next n e env c y s)
specs_mode_at z n e env (in_specs ss k) y s left o = specs_at z n e env ss k y s left o
specs_mode_at z n e env (after_tagged node g ss k) y s left o = tagged_at z n e env node g ss k y s left o
specs_mode_at z n e env (after_tag node g x ss k) y s left o = tag_at z n e env node g x ss k y s left o
specs_mode_at z n e env (want_field f) y s left o = field_begin_at z n e env f y s left o
specs_mode_at z n e env (want_enumerator k) y s left o = enumerator_begin_at z n e env k y s left o
specs_mode_at z n e env (after_enumerator node x k) y s left o = enumerator_at z n e env node x k y s left o
specs_mode_at z n e env (want_param k) y s left o = first_spec_at z n e env (of_param k) y s left o

declarator_mode_at : (z : Spot) (n e : ℕ) (env : Env) (c : DeclaratorMode) (y : Symbol) (s : Span) (left : List Span)
    → AtDeclaratorMode z c (spot n e (s ∷ left)) → Good z s.end left (r.declarator_mode_next n e env c y s)
declarator_mode_at z n e env (want_declarator k) y s left o = declarator_begin_at z n e env k y s left o
declarator_mode_at z n e env (after_star node qs k) y s left o = star_at z n e env node qs k y s left o
declarator_mode_at z n e env (declarator_opened node k) y s left o = opened_at z n e env node k y s left o
declarator_mode_at z n e env (after_declarator had k d) y s left o = declarator_at z n e env had k d y s left o
declarator_mode_at z n e env (array_opened node d k) y s left o = array_at z n e env node d k y s left o
declarator_mode_at z n e env (params_opened node d k) y s left o = params_next_at z n e env node d k y s left o

pub step_at : (z : Spot) (n e : ℕ) (env : Env) (c : Mode) (y : Symbol) (s : Span) (left : List Span)
    → At z c (spot n e (s ∷ left)) → Good z s.end left (r.step_at n e env c y s)
step_at z n e env (want_external deep done) y s left o = first_spec_at z n e env (of_declaration (of_external deep done)) y s left o
step_at z n e env (in_attribute node c a) y s left o = attribute_at z n e env node a c y s left o
step_at z n e env (specs c) y s left o = specs_mode_at z n e env c y s left o
step_at z n e env (declarator c) y s left o = declarator_mode_at z n e env c y s left o
step_at z n e env (after_attributes v) y s left o = item_at z n e env v y s left o
step_at z n e env (want_init k) y s left o = init_begin_at z n e env k y s left o
step_at z n e env (after_init deep k v) y s left o = init_at z n e env deep k v y s left o
step_at z n e env (expr c) y s left o = expr_at z n e env c y s left o
step_at z n e env (stmt c) y s left o = stmt_at z n e env c y s left o

-- ---- the run

option_at : (z : Spot) (a : Next) (e : ℕ) (o : Option Symbol) (s : Span) (left : List Span) → At z a.mode (spot a.id e (s ∷ left)) → Good z s.end left (r.step a e o s)
option_at z a e None s left i = tt
option_at z a e (Some y) s left i = step_at z a.id e a.env a.mode y s left i

-- where a run ends that took all tokens
pub record Ends (z : Spot) (x : Next) : Type 0 where
  pub end : ℕ
  pub at : At z x.mode (spot x.id end [])

abbrev pub Ran : Spot → r.Read → Type 0
Ran z (r.reached x) = Ends z x
Ran z (r.stuck xs) = Unit {0}
Ran z (r.too_deep xs) = Unit {0}

on_at : (z : Spot) (x : Token) (xs : List Token) (o : Option Next) → Good z x.span.end (map (λ v. v.span) xs) o
    → ((a : Next) → At z a.mode (spot a.id x.span.end (map (λ v. v.span) xs)) → Ran z (r.run a x.span.end xs))
    → Ran z (r.on_step x xs o (λ after. r.run after x.span.end xs))
on_at z x xs None i h = tt
on_at z x xs (Some a) i h = by_test (Ran z) (r.is_low a) (r.run a x.span.end xs) (r.too_deep xs) (h a i) tt

pub ran_at : (z : Spot) (xs : List Token) (a : Next) (e : ℕ) → At z a.mode (spot a.id e (map (λ x. x.span) xs)) → Ran z (r.run a e xs)
ran_at z [] a e i = record { end = e; at = i }
ran_at z (x ∷ xs) a e i =
    on_at z x xs (r.token_step a e x) (option_at z a e (symbol (lexeme_of x)) x.span (map (λ v. v.span) xs) i) (λ b h. ran_at z xs b x.span.end h)

-- ---- the unit

abbrev Marked : Spot → r.Answer → Type 0
Marked z (r.unit u) = Numbered z.id (pieces_unit u []) × Placed z.end z.left (pieces_unit u [])
Marked z (r.wrong xs) = Unit {0}
Marked z (r.deep xs) = Unit {0}

unit_at : (z : Spot) (n e : ℕ) (c : Mode) → At z c (spot n e []) → Marked z (r.answer_end (r.unit_at c))
unit_at z n e (want_external deep done) i = (i.numbers [] tt, i.places [] refl)
unit_at z n e (in_attribute node c a) i = tt
unit_at z n e (specs c) i = tt
unit_at z n e (declarator c) i = tt
unit_at z n e (after_attributes v) i = tt
unit_at z n e (want_init k) i = tt
unit_at z n e (after_init deep k v) i = tt
unit_at z n e (expr c) i = tt
unit_at z n e (stmt c) i = tt

answer_at : (z : Spot) (x : r.Read) → Ran z x → Marked z (r.answer x)
answer_at z (r.reached a) h = unit_at z a.id h.end a.mode h.at
answer_at z (r.stuck xs) h = tt
answer_at z (r.too_deep xs) h = tt

pub marked : IsMarked
marked xs u h =
    let z = spot 0 0 (map (λ x. x.span) xs) in
    let begins : AtUnit z [] z = record { numbers = λ ps k. k; places = λ ps k. k } in
    subst (Marked z) h (answer_at z (r.run r.begin 0 xs) (ran_at z xs r.begin 0 begins))
