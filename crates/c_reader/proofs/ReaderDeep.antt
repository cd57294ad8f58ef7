-- Where the reader ends: no state that it goes on from is higher than 200, and where it stops because of depth no flat unit begins with the tokens.
use Rattle.std.proofs.Common.{◌≡◌, ℕ, ◌≤◌, ◌<◌, nat_le, Bool, true, false, if◌then◌else◌, List, [], ◌∷◌, ◌++◌, Option, Some, None, IsSome, refl, sym, ◌∙◌, ap, arith}
use Rattle.std.proofs.lemmas.List.Elements.{All-head, All-tail}
use Rattle.tok_base.specs.declared.token.Token.{Token}
use Rattle.c_lexer.specs.Lexeme.{lexeme_of}
use Rattle.c_tree.specs.Tok.{Tok}
use Rattle.c_tree.specs.Lexeme.{classify}
use Rattle.c_tree.specs.Bare.{bare_unit}
use Rattle.c_tree.specs.Depth.{IsFlat}
use Rattle.c_reader.specs.Symbol.{tok_symbol, option_symbol}
use Rattle.c_reader.specs.Inside.{State}
use Rattle.c_reader.specs.Above.{so_far}
use Rattle.c_reader.specs.Machine as m
use Rattle.c_reader.specs.MarkedInside.{Mode, want_external, in_attribute, specs, declarator, after_attributes, want_init, after_init, expr, stmt, height, Next}
use Rattle.c_reader.specs.Reader as r
use Rattle.c_reader.specs.MarkedLaws.{with_tok, toks_of, AreToks}
use Rattle.c_reader.proofs.Go.{nat_le_yes, nat_le_no}
use Rattle.c_reader.proofs.Erased.{erase, erase_next, erased}
use Rattle.c_reader.proofs.ErasedRun.{option_step}
use Rattle.c_reader.proofs.Counted.{Counted, Counts}
use Rattle.c_reader.proofs.CountedRun.{option_counts}
use Rattle.c_reader.proofs.Low.{low}

-- the tokens before rest lead from a to a state whose least depth is too great
pub record DeepFrom (a : Next) (xs rest : List Token) : Type 0 where
  pub done : List Token
  pub is : xs ≡ done ++ rest
  pub state : State
  pub reach : m.run (erase_next a) (toks_of done) ≡ m.reached state
  pub deep : 200 < so_far state.mode

abbrev pub Ended : Next → List Token → r.Read → Type 0
Ended a xs (r.reached z) = Counted z.mode × (height z.mode ≤ 200)
Ended a xs (r.stuck rest) = Unit {0}
Ended a xs (r.too_deep rest) = DeepFrom a xs rest

-- with the token before them
taken : (a z : Next) (x : Token) (t : Tok) (done : List Token) → classify (lexeme_of x) ≡ Some t → m.step_tok (erase_next a) (tok_symbol t) ≡ Some (erase_next z)
    → m.run (erase_next a) (toks_of (x ∷ done)) ≡ m.run (erase_next z) (toks_of done)
taken a z x t done c e = ap (λ v. m.run (erase_next a) (with_tok v (toks_of done))) c ∙ ap (λ v. m.on_step t (toks_of done) v (λ after. m.run after (toks_of done))) e

longer : (a z : Next) (x : Token) (xs : List Token) (t : Tok) (w : r.Read) → classify (lexeme_of x) ≡ Some t → m.step_tok (erase_next a) (tok_symbol t) ≡ Some (erase_next z)
    → Ended z xs w → Ended a (x ∷ xs) w
longer a z x xs t (r.reached b) c e h = h
longer a z x xs t (r.stuck rest) c e h = tt
longer a z x xs t (r.too_deep rest) c e h =
    record { done = x ∷ h.done; is = ap (λ ys. x ∷ ys) h.is; state = h.state; reach = taken a z x t h.done c e ∙ h.reach; deep = h.deep }

too_high : (c : Mode) → Counted c → nat_le (height c) 200 ≡ false → 200 < so_far (erase c)
too_high c k e = let h = low c k in let l = nat_le_no (height c) 200 e in omega (arith, h, l)

by_height : (a z : Next) (x : Token) (xs : List Token) (t : Tok) (c : Bool) → nat_le (height z.mode) 200 ≡ c → classify (lexeme_of x) ≡ Some t
    → m.step_tok (erase_next a) (tok_symbol t) ≡ Some (erase_next z) → Counted z.mode → (height z.mode ≤ 200 → Ended z xs (r.run z x.span.end xs))
    → Ended a (x ∷ xs) (if c then r.run z x.span.end xs else r.too_deep xs)
by_height a z x xs t true h c e k f = longer a z x xs t (r.run z x.span.end xs) c e (f (nat_le_yes (height z.mode) 200 h))
by_height a z x xs t false h c e k f = record { done = x ∷ []; is = refl; state = erase_next z; reach = taken a z x t [] c e; deep = too_high z.mode k h }

on_ended : (a : Next) (x : Token) (xs : List Token) (t : Tok) (o : Option Next) → classify (lexeme_of x) ≡ Some t → erased o ≡ m.step_tok (erase_next a) (tok_symbol t) → Counts o
    → ((z : Next) → Counted z.mode → height z.mode ≤ 200 → Ended z xs (r.run z x.span.end xs))
    → Ended a (x ∷ xs) (r.on_step x xs o (λ after. r.run after x.span.end xs))
on_ended a x xs t None c e k f = tt
on_ended a x xs t (Some z) c e k f = by_height a z x xs t (r.is_low z) refl c (sym e) k (f z k)

by_tok : (a : Next) (e : ℕ) (x : Token) (xs : List Token) (o : Option Tok) → classify (lexeme_of x) ≡ o → IsSome o → Counted a.mode
    → ((z : Next) → Counted z.mode → height z.mode ≤ 200 → Ended z xs (r.run z x.span.end xs))
    → Ended a (x ∷ xs) (r.on_step x xs (r.step a e (option_symbol o) x.span) (λ after. r.run after x.span.end xs))
by_tok a e x xs None c h k f = cc
by_tok a e x xs (Some t) c h k f = on_ended a x xs t (r.step a e (tok_symbol t) x.span) c (option_step a e (tok_symbol t) x.span) (option_counts a e (tok_symbol t) x.span k) f

pub ended : (xs : List Token) → AreToks xs → (a : Next) (e : ℕ) → Counted a.mode → height a.mode ≤ 200 → Ended a xs (r.run a e xs)
ended [] h a e k l = (k, l)
ended (x ∷ xs) h a e k l =
    by_tok a e x xs (classify (lexeme_of x)) refl (All-head (λ z. IsSome (classify (lexeme_of z))) x xs h) k
    (λ z c f. ended xs (All-tail (λ v. IsSome (classify (lexeme_of v))) x xs h) z x.span.end c f)

-- ---- the answer

abbrev pub AnswerEnds : List Token → r.Answer → Type 0
AnswerEnds xs (r.unit u) = IsFlat (bare_unit u)
AnswerEnds xs (r.wrong rest) = Unit {0}
AnswerEnds xs (r.deep rest) = DeepFrom r.begin xs rest

flat_end : (xs : List Token) (c : Mode) → Counted c → height c ≤ 200 → AnswerEnds xs (r.answer_end (r.unit_at c))
flat_end xs (want_external deep done) k l = omega (arith, k, l)
flat_end xs (in_attribute o c a) k l = tt
flat_end xs (specs c) k l = tt
flat_end xs (declarator c) k l = tt
flat_end xs (after_attributes x) k l = tt
flat_end xs (want_init v) k l = tt
flat_end xs (after_init d v x) k l = tt
flat_end xs (expr c) k l = tt
flat_end xs (stmt c) k l = tt

answer_ends : (xs : List Token) (w : r.Read) → Ended r.begin xs w → AnswerEnds xs (r.answer w)
answer_ends xs (r.reached z) h = flat_end xs z.mode h.0 h.1
answer_ends xs (r.stuck rest) h = tt
answer_ends xs (r.too_deep rest) h = h

pub read_ends : (xs : List Token) → AreToks xs → AnswerEnds xs (r.read xs)
read_ends xs h = answer_ends xs (r.run r.begin 0 xs) (ended xs h r.begin 0 refl (omega arith))
