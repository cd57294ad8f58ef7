-- What the reader answers about tokens of C.
use Rattle.std.proofs.Common.{◌≡◌, ℕ, Bool, true, false, if◌then◌else◌, List, [], ◌∷◌, ◌++◌, map, All, Option, Some, None, IsSome, refl, sym, ◌∙◌, ap, subst, append_assoc, append-nil}
use Rattle.std.proofs.lemmas.List.{append_cancel_right}
use Rattle.std.proofs.lemmas.List.Elements.{All-nil, All-cons, All-head, All-tail, All-map}
use Rattle.tok_base.specs.declared.token.Token.{Token}
use Rattle.tok_base.specs.declared.token.Lexeme.{Lexeme}
use Rattle.c_lexer.specs.Token.{IsToken}
use Rattle.c_lexer.specs.Lexeme.{lexeme_of, IsLexeme}
use Rattle.c_tree.specs.Tok.{Tok}
use Rattle.c_tree.specs.Tree as b
use Rattle.c_tree.specs.Lexeme.{lexeme, classify}
use Rattle.c_tree.specs.Marked.{External}
use Rattle.c_tree.specs.Bare.{bare_unit}
use Rattle.c_tree.specs.Depth.{IsFlat}
use Rattle.c_tree.specs.Reading.{Reads, IsUnit, Begins, IsPlace, IsDeep}
use Rattle.c_reader.specs.Laws.{AreLexemes, Tells}
use Rattle.c_reader.specs.Machine as m
use Rattle.c_reader.specs.MarkedInside.{Next}
use Rattle.c_reader.specs.Reader as r
use Rattle.c_reader.specs.MarkedLaws.{toks_of, AreToks, AreTokens, Erases, IsTooDeep, not_flat, goes_deep, IsDeepAt, TellsTokens, TokensAreRead, UnitsAreAnswered}
use Rattle.c_reader.proofs.Law.{answers_are_right, units_are_unique, deep_is_known, reached_is_begun}
use Rattle.c_reader.proofs.ErasedRun.{read_erased}
use Rattle.c_reader.proofs.MarkedTokens.{are_toks, lexemes_kept}
use Rattle.c_reader.proofs.MarksRun.{marked}
use Rattle.c_reader.proofs.ReaderDeep.{DeepFrom, AnswerEnds, read_ends}

-- ---- where the reader stops

-- these tokens are the last ones
abbrev EndsWith : List Token → r.Read → Type 0
EndsWith xs (r.reached a) = Unit {0}
EndsWith xs (r.stuck rest) = (done : List Token) × (xs ≡ done ++ rest)
EndsWith xs (r.too_deep rest) = Unit {0}

one_more : (x : Token) (xs : List Token) (o : r.Read) → EndsWith xs o → EndsWith (x ∷ xs) o
one_more x xs (r.reached a) h = tt
one_more x xs (r.stuck rest) h = (x ∷ h.0, ap (λ ys. x ∷ ys) h.1)
one_more x xs (r.too_deep rest) h = tt

by_height : (x : Token) (xs : List Token) (c : Bool) (o : r.Read) → EndsWith xs o → EndsWith (x ∷ xs) (if c then o else r.too_deep xs)
by_height x xs true o h = one_more x xs o h
by_height x xs false o h = tt

after_step : (x : Token) (xs : List Token) (o : Option Next) (f : Next → r.Read) → ((a : Next) → EndsWith xs (f a)) → EndsWith (x ∷ xs) (r.on_step x xs o f)
after_step x xs None f h = ([], refl)
after_step x xs (Some a) f h = by_height x xs (r.is_low a) (f a) (h a)

run_ends : (xs : List Token) (a : Next) (e : ℕ) → EndsWith xs (r.run a e xs)
run_ends [] a e = tt
run_ends (x ∷ xs) a e = after_step x xs (r.token_step a e x) _ (λ c. run_ends xs c x.span.end)

abbrev StopsIn : List Token → r.Answer → Type 0
StopsIn xs (r.unit u) = Unit {0}
StopsIn xs (r.wrong rest) = (done : List Token) × (xs ≡ done ++ rest)
StopsIn xs (r.deep rest) = Unit {0}

end_stops : (xs : List Token) (o : Option (List External)) → StopsIn xs (r.answer_end o)
end_stops xs (Some u) = tt
end_stops xs None = (xs, sym (append-nil xs))

stops : (xs : List Token) (o : r.Read) → EndsWith xs o → StopsIn xs (r.answer o)
stops xs (r.reached a) h = end_stops xs (r.unit_at a.mode)
stops xs (r.stuck rest) h = h
stops xs (r.too_deep rest) h = tt

-- ---- tokens

are_lexemes : (xs : List Token) → AreTokens xs → All IsLexeme (map lexeme_of xs)
are_lexemes xs h = All-map IsLexeme lexeme_of xs h

toks_are_lexemes : (xs : List Token) → AreTokens xs → AreLexemes (toks_of xs)
toks_are_lexemes xs h = subst (All IsLexeme) (sym (lexemes_kept xs (are_toks xs h))) (are_lexemes xs h)

last_toks : (done rest : List Token) → AreToks (done ++ rest) → AreToks rest
last_toks [] rest h = h
last_toks (x ∷ done) rest h = last_toks done rest (All-tail (λ z. IsSome (classify (lexeme_of z))) x (done ++ rest) h)

append_lexemes : (xs ys : List Token) → map lexeme_of (xs ++ ys) ≡ map lexeme_of xs ++ map lexeme_of ys
append_lexemes [] ys = refl
append_lexemes (x ∷ xs) ys = ap (λ zs. lexeme_of x ∷ zs) (append_lexemes xs ys)

append_toks : (ts us : List Tok) → map lexeme (ts ++ us) ≡ map lexeme ts ++ map lexeme us
append_toks [] us = refl
append_toks (x ∷ ts) us = ap (λ zs. lexeme x ∷ zs) (append_toks ts us)

-- ---- too deep

-- one of two fronts of the same list is the longer
data Fronts (d p q : List Lexeme) : Type 0 where
  first_longer : (l : Lexeme) (z more : List Lexeme) → d ≡ p ++ l ∷ z → q ≡ l ∷ more → Fronts d p q
  second_longer : (z : List Lexeme) → p ≡ d ++ z → Fronts d p q

longer : (l k : Lexeme) (d p q : List Lexeme) → l ≡ k → Fronts d p q → Fronts (l ∷ d) (k ∷ p) q
longer l k d p q e (first_longer y z more f g) = first_longer y z more (ap (λ v. v ∷ d) e ∙ ap (λ v. k ∷ v) f) g
longer l k d p q e (second_longer z f) = second_longer z (ap (λ v. v ∷ p) (sym e) ∙ ap (λ v. l ∷ v) f)

fronts : (d p q v : List Lexeme) → d ++ v ≡ p ++ q → Fronts d p q
fronts [] p q v e = second_longer p refl
fronts (l ∷ d) [] q v e = first_longer l d (d ++ v) refl (sym e)
fronts (l ∷ d) (k ∷ p) q v e =
    let heads : l ≡ k = cc in
    let tails : d ++ v ≡ p ++ q = cc in
    longer l k d p q heads (fronts d p q v tails)

deep_front : (d p q : List Lexeme) → Begins d → IsDeep d → IsPlace p q → Fronts d p q → IsDeep p
deep_front d p q f g h (first_longer l z more i j) u s w flat e =
    h.1 l more j (f.0, f.1, z ++ f.2, f.3 ∙ ap (λ v. v ++ f.2) i ∙ append_assoc p (l ∷ z) f.2 ∙ sym (append_assoc p (l ∷ []) (z ++ f.2)))
deep_front d p q f g h (second_longer z i) u s w flat e = g u (z ++ s) w flat (e ∙ ap (λ v. v ++ s) i ∙ append_assoc d z s)

first_tokens : (done rest : List Token) → AreTokens (done ++ rest) → AreTokens done
first_tokens [] rest h = All-nil (λ x. IsToken x.kind x.text)
first_tokens (x ∷ done) rest h =
    All-cons (λ z. IsToken z.kind z.text) x done (All-head (λ z. IsToken z.kind z.text) x (done ++ rest) h) (first_tokens done rest (All-tail (λ z. IsToken z.kind z.text) x (done ++ rest) h))

-- why the tokens are too deep: the machine tells whether they spell a unit
why_deep : (xs rest done : List Token) (a : m.Answer) → AreToks xs → xs ≡ done ++ rest → Begins (map lexeme_of done) → IsDeep (map lexeme_of done) → Tells (toks_of xs) a → IsTooDeep xs
why_deep xs rest done (m.unit v) h e f g t =
    let reads : Reads (map lexeme_of xs) v = subst (λ ls. Reads ls v) (lexemes_kept xs h) t in
    not_flat v reads (λ flat. g v (map lexeme_of rest) reads.0 flat (reads.1 ∙ ap (map lexeme_of) e ∙ append_lexemes done rest))
why_deep xs rest done (m.wrong left) h e f g t =
    let p = map lexeme t.0 in
    let q = map lexeme left in
    let all : map lexeme_of xs ≡ p ++ q = sym (lexemes_kept xs h) ∙ ap (map lexeme) t.1 ∙ append_toks t.0 left in
    let whole : map lexeme_of done ++ map lexeme_of rest ≡ p ++ q = sym (append_lexemes done rest) ∙ sym (ap (map lexeme_of) e) ∙ all in
    goes_deep p q all t.2 (λ v. t.3 (subst IsUnit (sym (lexemes_kept xs h)) v)) (deep_front (map lexeme_of done) p q f g t.2 (fronts (map lexeme_of done) p q (map lexeme_of rest) whole))

deep_told : (xs rest : List Token) → AreTokens xs → DeepFrom r.begin xs rest → IsDeepAt xs rest
deep_told xs rest h d =
    let kept = first_tokens d.done rest (subst AreTokens d.is h) in
    let same = lexemes_kept d.done (are_toks d.done kept) in
    let begun : Begins (map lexeme_of d.done) = subst Begins same (reached_is_begun (toks_of d.done) d.state (toks_are_lexemes d.done kept) d.reach) in
    let deep : IsDeep (map lexeme_of d.done) = subst IsDeep same (deep_is_known (toks_of d.done) d.state d.reach d.deep) in
    record {
      done = d.done;
      is = d.is;
      begins = begun;
      deep = deep;
      why = why_deep xs rest d.done (m.read (toks_of xs)) (are_toks xs h) d.is begun deep (answers_are_right (toks_of xs) (toks_are_lexemes xs h));
    }

-- ---- the answer

-- the machine's place is the reader's
place_told : (xs rest : List Token) (ts : List Tok) (done : List Token) → AreToks xs → xs ≡ done ++ rest → toks_of xs ≡ ts ++ toks_of rest
    → (map lexeme ts ≡ map lexeme_of done) × (map lexeme (toks_of rest) ≡ map lexeme_of rest)
place_told xs rest ts done h e f =
    let last = lexemes_kept rest (last_toks done rest (subst AreToks e h)) in
    let whole : map lexeme ts ++ map lexeme_of rest ≡ map lexeme_of done ++ map lexeme_of rest =
    ap (λ z. map lexeme ts ++ z) (sym last) ∙ sym (append_toks ts (toks_of rest)) ∙ ap (map lexeme) (sym f) ∙ lexemes_kept xs h ∙ ap (map lexeme_of) e ∙ append_lexemes done rest in
    (append_cancel_right (map lexeme ts) (map lexeme_of done) (map lexeme_of rest) whole, last)

told : (xs : List Token) → AreTokens xs → (a : r.Answer) → r.read xs ≡ a → StopsIn xs a → AnswerEnds xs a → (v : m.Answer) → Erases a v → Tells (toks_of xs) v → TellsTokens xs a
told xs h (r.unit u) e s d v f t =
    let k = marked xs u e in
    let reads : Reads (map lexeme (toks_of xs)) (bare_unit u) = subst (Tells (toks_of xs)) f t in
    record { reads = subst (λ ls. Reads ls (bare_unit u)) (lexemes_kept xs (are_toks xs h)) reads; flat = d; numbered = k.0; placed = k.1 }
told xs h (r.wrong rest) e s d v f t =
    let w : Tells (toks_of xs) (m.wrong (toks_of rest)) = subst (Tells (toks_of xs)) f t in
    let p = place_told xs rest w.0 s.0 (are_toks xs h) s.1 w.1 in
    record {
      done = s.0;
      is = s.1;
      place = subst (λ ls. IsPlace ls (map lexeme_of rest)) p.0 (subst (IsPlace (map lexeme w.0)) p.1 w.2);
      none = λ z. w.3 (subst IsUnit (sym (lexemes_kept xs (are_toks xs h))) z);
    }
told xs h (r.deep rest) e s d v f t = deep_told xs rest h d

pub tokens_are_read : TokensAreRead
tokens_are_read xs h =
    told xs h (r.read xs) refl (stops xs (r.run r.begin 0 xs) (run_ends xs r.begin 0)) (read_ends xs (are_toks xs h)) (m.read (toks_of xs)) (read_erased xs (are_toks xs h))
    (answers_are_right (toks_of xs) (toks_are_lexemes xs h))

-- the unit that is answered, where the tokens spell a flat one
answered : (xs : List Token) (v : List b.External) (w a : r.Answer) → w ≡ a → TellsTokens xs a → Reads (map lexeme_of xs) v → IsFlat v → (u : List External) × (w ≡ r.unit u) × (bare_unit u ≡ v)
answered xs v w (r.unit u) e h f flat = (u, e, units_are_unique (bare_unit u) v h.reads.0 f.0 (h.reads.1 ∙ sym f.1))
answered xs v w (r.wrong rest) e h f flat = absurd (h.none (v, f))
answered xs v w (r.deep rest) e h f flat = absurd (h.deep v (map lexeme_of rest) f.0 flat (f.1 ∙ ap (map lexeme_of) h.is ∙ append_lexemes h.done rest))

pub units_are_answered : UnitsAreAnswered
units_are_answered xs v h f flat = answered xs v (r.read xs) (r.read xs) refl (tokens_are_read xs h) f flat
