-- Without places and numbers, the reader is the machine.
use Rattle.std.proofs.Common.{◌≡◌, ℕ, Bool, true, false, if◌then◌else◌, List, [], ◌∷◌, Option, Some, None, IsSome, refl, sym, ◌∙◌, ap, subst}
use Rattle.std.proofs.lemmas.List.Elements.{All-head, All-tail}
use Rattle.tok_base.specs.declared.token.Span.{Span}
use Rattle.tok_base.specs.declared.token.Token.{Token}
use Rattle.c_lexer.specs.Lexeme.{lexeme_of}
use Rattle.c_tree.specs.Tok.{Tok}
use Rattle.c_tree.specs.Lexeme.{classify}
use Rattle.c_tree.specs.Wf.{Env}
use Rattle.c_reader.specs.Symbol.{Symbol, tok_symbol, option_symbol}
use Rattle.c_reader.specs.Inside.{State}
use Rattle.c_reader.specs.Machine as m
use Rattle.c_reader.specs.MarkedInside.{SpecsMode, in_specs, after_tagged, after_tag, want_field, want_enumerator, after_enumerator, want_param, DeclaratorMode, want_declarator, after_star, declarator_opened, after_declarator, array_opened, params_opened, of_declaration, of_external, of_param, Mode, want_external, in_attribute, specs, declarator, after_attributes, want_init, after_init, expr, stmt, Next}
use Rattle.c_reader.specs.Reader as r
use Rattle.c_reader.specs.MarkedLaws.{with_tok, toks_of, AreToks, Erases}
use Rattle.c_reader.proofs.Erased.{erase, erase_next, erase_specs_mode, erase_declarator_mode, erased}
use Rattle.c_reader.proofs.ErasedDeclarations.{first_spec_step, item_step, init_step, init_begin_step}
use Rattle.c_reader.proofs.ErasedDeclarators.{declarator_begin_step, star_step, opened_step, array_step, params_next_step, declarator_step}
use Rattle.c_reader.proofs.ErasedSpecs.{specs_step, tagged_step, tag_step, field_begin_step, enumerator_begin_step, enumerator_step, attribute_step}
use Rattle.c_reader.proofs.ErasedExprs.{expr_step}
use Rattle.c_reader.proofs.ErasedStmts.{stmt_step}

specs_mode_step : (n e : ℕ) (env : Env) (c : SpecsMode) (y : Symbol) (s : Span) → erased (r.specs_mode_next n e env c y s) ≡ m.specs_mode_next env (erase_specs_mode c) y
specs_mode_step n e env (in_specs ss k) y s = specs_step n e env ss k y s
specs_mode_step n e env (after_tagged o g ss k) y s = tagged_step n env o g ss k y
specs_mode_step n e env (after_tag o g x ss k) y s = tag_step n e env o g x ss k y s
specs_mode_step n e env (want_field f) y s = field_begin_step n env f y s
specs_mode_step n e env (want_enumerator k) y s = enumerator_begin_step n env k y s
specs_mode_step n e env (after_enumerator o x k) y s = enumerator_step n e env o x k y s
specs_mode_step n e env (want_param k) y s = first_spec_step n env (of_param k) y s

declarator_mode_step : (n e : ℕ) (env : Env) (c : DeclaratorMode) (y : Symbol) (s : Span) → erased (r.declarator_mode_next n e env c y s) ≡ m.declarator_mode_next env (erase_declarator_mode c) y
declarator_mode_step n e env (want_declarator k) y s = declarator_begin_step n e env k y s
declarator_mode_step n e env (after_star o qs k) y s = star_step n e env o qs k y s
declarator_mode_step n e env (declarator_opened o k) y s = opened_step n e env o k y s
declarator_mode_step n e env (after_declarator o k d) y s = declarator_step n e env o k d y s
declarator_mode_step n e env (array_opened o d k) y s = array_step n env o d k y s
declarator_mode_step n e env (params_opened o d k) y s = params_next_step n env o d k y s

pub step_erased : (n e : ℕ) (env : Env) (c : Mode) (y : Symbol) (s : Span) → erased (r.step_at n e env c y s) ≡ m.step_at env (erase c) y
step_erased n e env (want_external deep done) y s = first_spec_step n env (of_declaration (of_external deep done)) y s
step_erased n e env (in_attribute o c a) y s = attribute_step n e env o a c y s
step_erased n e env (specs c) y s = specs_mode_step n e env c y s
step_erased n e env (declarator c) y s = declarator_mode_step n e env c y s
step_erased n e env (after_attributes x) y s = item_step n e env x y s
step_erased n e env (want_init k) y s = init_begin_step n env k y s
step_erased n e env (after_init d k v) y s = init_step n e env d k v y s
step_erased n e env (expr c) y s = expr_step n e env c y s
step_erased n e env (stmt c) y s = stmt_step n e env c y s

pub option_step : (a : Next) (e : ℕ) (o : Option Symbol) (s : Span) → erased (r.step a e o s) ≡ m.step_tok (erase_next a) o
option_step a e None s = refl
option_step a e (Some y) s = step_erased a.id e a.env a.mode y s

-- ---- the run

-- the reader's run and the machine's, of the same tokens
abbrev pub Follows : r.Read → m.Read → Type 0
Follows (r.reached a) z = z ≡ m.reached (erase_next a)
Follows (r.stuck xs) z = z ≡ m.stuck (toks_of xs)
Follows (r.too_deep xs) z = Unit {0}

abbrev Same : Next → ℕ → Token → List Token → Option Tok → Type 0
Same a e x xs o = Follows (r.on_step x xs (r.step a e (option_symbol o) x.span) (λ after. r.run after x.span.end xs)) (m.run (erase_next a) (with_tok o (toks_of xs)))

by_height : (a : Next) (x : Token) (xs : List Token) (z : m.Read) (b : Bool) → Follows (r.run a x.span.end xs) z → Follows (if b then r.run a x.span.end xs else r.too_deep xs) z
by_height a x xs z true f = f
by_height a x xs z false f = tt

on_erased : (x : Token) (xs : List Token) (t : Tok) (o : Option Next) (w : Option State) → classify (lexeme_of x) ≡ Some t → erased o ≡ w
    → ((a : Next) → Follows (r.run a x.span.end xs) (m.run (erase_next a) (toks_of xs)))
    → Follows (r.on_step x xs o (λ after. r.run after x.span.end xs)) (m.on_step t (toks_of xs) w (λ after. m.run after (toks_of xs)))
on_erased x xs t None w c h f = sym (ap m.stuck (ap (λ z. with_tok z (toks_of xs)) c) ∙ ap (λ z. m.on_step t (toks_of xs) z (λ after. m.run after (toks_of xs))) h)
on_erased x xs t (Some a) w c h f =
    subst (λ z. Follows (r.on_step x xs (Some a) (λ after. r.run after x.span.end xs)) (m.on_step t (toks_of xs) z (λ after. m.run after (toks_of xs)))) h
    (by_height a x xs (m.run (erase_next a) (toks_of xs)) (r.is_low a) (f a))

by_tok : (a : Next) (e : ℕ) (x : Token) (xs : List Token) (o : Option Tok) → classify (lexeme_of x) ≡ o → IsSome o
    → ((b : Next) → Follows (r.run b x.span.end xs) (m.run (erase_next b) (toks_of xs)))
    → Same a e x xs o
by_tok a e x xs None c h f = cc
by_tok a e x xs (Some t) c h f = on_erased x xs t (r.step a e (tok_symbol t) x.span) (m.step_tok (erase_next a) (tok_symbol t)) c (option_step a e (tok_symbol t) x.span) f

pub run_erased : (xs : List Token) → AreToks xs → (a : Next) (e : ℕ) → Follows (r.run a e xs) (m.run (erase_next a) (toks_of xs))
run_erased [] h a e = refl
run_erased (x ∷ xs) h a e =
    by_tok a e x xs (classify (lexeme_of x)) refl (All-head (λ z. IsSome (classify (lexeme_of z))) x xs h)
    (λ b. run_erased xs (All-tail (λ z. IsSome (classify (lexeme_of z))) x xs h) b x.span.end)

unit_erased : (c : Mode) → Erases (r.answer_end (r.unit_at c)) (m.answer_end (m.unit_at (erase c)))
unit_erased (want_external deep done) = refl
unit_erased (in_attribute o c a) = refl
unit_erased (specs c) = refl
unit_erased (declarator c) = refl
unit_erased (after_attributes x) = refl
unit_erased (want_init k) = refl
unit_erased (after_init d k v) = refl
unit_erased (expr c) = refl
unit_erased (stmt c) = refl

answer_erased : (x : r.Read) (z : m.Read) → Follows x z → Erases (r.answer x) (m.answer z)
answer_erased (r.reached a) z h = subst (λ v. Erases (r.answer_end (r.unit_at a.mode)) (m.answer v)) (sym h) (unit_erased a.mode)
answer_erased (r.stuck xs) z h = ap m.answer h
answer_erased (r.too_deep xs) z h = tt

pub read_erased : (xs : List Token) → AreToks xs → Erases (r.read xs) (m.read (toks_of xs))
read_erased xs h = answer_erased (r.run r.begin 0 xs) (m.run (erase_next r.begin) (toks_of xs)) (run_erased xs h r.begin 0)
