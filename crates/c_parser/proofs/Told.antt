-- What parse answers, from what the reader does.
use Rattle.std.proofs.Common.{◌≡◌, ℕ, ◌≤◌, ◌<◌, ◌+◌, if◌then◌else◌, List, [], ◌∷◌, ◌++◌, length, take, drop, map, All, Option, Some, None, Result, Ok, Err, IfOk, arith, refl, sym, subst, ap, ◌∙◌}
use Rattle.tok_base.specs.declared.token.Token.{Token}
use Rattle.tok_base.specs.declared.token.Lexeme.{Lexeme}
use Rattle.c_lexer.specs.Token.{IsToken}
use Rattle.c_lexer.specs.Lexeme.{lexeme_of}
use Rattle.c_tree.specs.Tree as b
use Rattle.c_tree.specs.Bare.{bare_unit}
use Rattle.c_tree.specs.Depth.{IsFlat}
use Rattle.c_tree.specs.Marked as m
use Rattle.c_tree.specs.Places.{IsNumbered, IsPlaced}
use Rattle.c_tree.specs.Reading.{Reads, IsPlace}
use Rattle.c_tree.specs.View.{view_unit}
use Rattle.c_tree.specs.declared.statement.Unit.{Unit}
use Rattle.c_reader.specs.MarkedInside as r
use Rattle.c_reader.specs.MarkedLaws as law
use Rattle.c_reader.specs.Reader as reader
use Rattle.c_reader.proofs.MarkedWhole.{tokens_are_read, units_are_answered}
use Rattle.c_parser.specs.Parsed.{Answers, Ended, Finished, IsNotFlat, not_flat, goes_deep, IsParsed, IsTooDeep, IsWrongAt, IsHigh, Parsed, Reached, run_all, view_state}
use Rattle.c_parser.specs.declared.reader.ParseEnd as end
use Rattle.c_parser.specs.declared.reader.ParseEnd.{ParseEnd}
use Rattle.c_parser.specs.declared.reader.State.{State}
use Rattle.std.proofs.Math.ListN.{get_or}
use Rattle.std.proofs.lemmas.List.{append_cancel_right, drop-map, drop_more, length-map, map-append, take-append-drop, take-map}

-- ---- a token with which every unit is too deep

deep_step : (x : Token) (xs : List Token) (o : Option r.Next) (f : r.Next → reader.Read) → IsHigh o → reader.on_step x xs o f ≡ reader.too_deep xs
deep_step x xs None f h = absurd h
deep_step x xs (Some a) f h = ap (λ b. if b then f a else reader.too_deep xs) h

pub stops_deep : (ts : List Token) (a : r.Next) (e i : ℕ) (x : Token) → i < length ts → x ≡ get_or ts i x → run_all ts ≡ reader.run a e (drop i ts) → IsHigh (reader.token_step a e x) → run_all ts ≡ reader.too_deep (drop (i + 1) ts)
stops_deep ts a e i x below is h high =
    let rest = drop (i + 1) ts in
    let s = drop_more ts i x below ∙ ap (λ y. y ∷ rest) (sym is) in
    h ∙ (ap (reader.run a e) s ∙ deep_step x rest (reader.token_step a e x) (λ after. reader.run after x.span.end rest) high)

-- ---- from where the tokens lead to the answer

at_end : (u : Unit) (ts : List Token) (a : r.Next) → run_all ts ≡ reader.reached a → reader.unit_at a.mode ≡ Some (view_unit u) → reader.read ts ≡ reader.unit (view_unit u)
at_end u ts a h f = ap reader.answer h ∙ ap reader.answer_end f

not_at_end : (ts : List Token) (a : r.Next) → run_all ts ≡ reader.reached a → reader.unit_at a.mode ≡ None → reader.read ts ≡ reader.wrong []
not_at_end ts a h f = ap reader.answer h ∙ ap reader.answer_end f

drop_all : (ts : List Token) → drop (length ts) ts ≡ []
drop_all [] = refl
drop_all (t ∷ ts) = drop_all ts

≤-self : (n : ℕ) → n ≤ n
≤-self n = omega arith

ended : (k : ℕ) (ts : List Token) → k ≡ length ts → reader.read ts ≡ reader.wrong [] → (k ≤ length ts) × (reader.read ts ≡ reader.wrong (drop k ts))
ended k ts e h = (subst (λ n. n ≤ length ts) (sym e) (≤-self (length ts)), h ∙ ap reader.wrong (sym (ap (λ n. drop n ts) e ∙ drop_all ts)))

pub told : (a : Result State ParseEnd) (x : Result Unit ParseEnd) (ts : List Token) → Reached a ts → Finished a (length ts) x → Parsed x ts
told (Ok s) (Ok u) ts h f = at_end u ts (view_state s) h f
told (Ok s) (Err (end.TheVariants.Syntax k)) ts h f = ended k ts f.0 (not_at_end ts (view_state s) h f.1)
told (Ok s) (Err end.TheVariants.TooDeep) ts h f = absurd f
told (Ok s) (Err end.TheVariants.NoMemory) ts h f = absurd f
told (Err (end.TheVariants.Syntax k)) x ts h f = subst (λ y. Parsed y ts) (sym f) (h.0, ap reader.answer h.1)
told (Err end.TheVariants.TooDeep) x ts h f = subst (λ y. Parsed y ts) (sym f) (h.0, ap reader.answer h.1)
told (Err end.TheVariants.NoMemory) x ts h f = subst (λ y. Parsed y ts) (sym f) tt

-- ---- what it says

is_unit : (ts : List Token) (u : Unit) → law.AreTokens ts → reader.read ts ≡ reader.unit (view_unit u) → law.IsUnitOf ts (view_unit u)
is_unit ts u a h = subst (law.TellsTokens ts) h (tokens_are_read ts a)

pub found : (x : Result Unit ParseEnd) (ts : List Token) → law.AreTokens ts → Parsed x ts → IfOk x (λ u. IsParsed (map lexeme_of ts) (bare_unit (view_unit u)))
found (Ok u) ts a h = let f = is_unit ts u a h in record { reads = f.reads; flat = f.flat }
found (Err e) ts a h = tt

pub numbered : (x : Result Unit ParseEnd) (ts : List Token) → law.AreTokens ts → Parsed x ts → IfOk x (λ u. IsNumbered (view_unit u))
numbered (Ok u) ts a h = (is_unit ts u a h).numbered
numbered (Err e) ts a h = tt

pub placed : (x : Result Unit ParseEnd) (ts : List Token) → law.AreTokens ts → Parsed x ts → IfOk x (λ u. IsPlaced (map (λ t. t.span) ts) (view_unit u))
placed (Ok u) ts a h = (is_unit ts u a h).placed
placed (Err e) ts a h = tt

-- the reader's answer is a unit, and no other
same_unit : (v w : List m.External) → reader.unit v ≡ reader.unit w → v ≡ w
same_unit v w e = ap unit_of e where
  unit_of : reader.Answer → List m.External
  unit_of (reader.unit u) = u
  unit_of (reader.wrong xs) = []
  unit_of (reader.deep xs) = []

abbrev IsUnitAnswer : reader.Answer → Type 0
IsUnitAnswer (reader.unit u) = Prim.Unit {0}
IsUnitAnswer (reader.wrong xs) = ⊥
IsUnitAnswer (reader.deep xs) = ⊥

pub only : (x : Result Unit ParseEnd) (ts : List Token) → law.AreTokens ts → Parsed x ts → (u : List b.External) → Reads (map lexeme_of ts) u → IsFlat u → Answers u x
only (Ok v) ts a h u rs fl =
    let w = units_are_answered ts u a rs fl in
    ap bare_unit (same_unit (view_unit v) w.0 (sym h ∙ w.1)) ∙ w.2
only (Err (end.TheVariants.Syntax k)) ts a h u rs fl =
    let w = units_are_answered ts u a rs fl in
    absurd (subst IsUnitAnswer (sym w.1 ∙ h.1) tt)
only (Err end.TheVariants.TooDeep) ts a h u rs fl =
    let w = units_are_answered ts u a rs fl in
    absurd (subst IsUnitAnswer (sym w.1 ∙ h.1) tt)
only (Err end.TheVariants.NoMemory) ts a h u rs fl = tt

-- ---- where they go wrong

abbrev lexemes : List Token → List Lexeme
lexemes ts = map lexeme_of ts

front : (done ts : List Token) (k : ℕ) → ts ≡ done ++ drop k ts → done ≡ take k ts
front done ts k e = append_cancel_right done (take k ts) (drop k ts) (sym e ∙ sym (take-append-drop k ts))

place_at : (done ts : List Token) (k : ℕ) → done ≡ take k ts → IsPlace (lexemes done) (lexemes (drop k ts)) → IsPlace (take k (lexemes ts)) (drop k (lexemes ts))
place_at done ts k e p =
    subst (λ l. IsPlace l (drop k (lexemes ts))) (ap lexemes e ∙ sym (take-map lexeme_of k ts)) (subst (IsPlace (lexemes done)) (sym (drop-map lexeme_of k ts)) p)

wrong_at : (ts : List Token) (k : ℕ) → k ≤ length ts → law.IsWrongAt ts (drop k ts) → IsWrongAt (lexemes ts) k
wrong_at ts k l w = record {
  within = subst (λ n. k ≤ n) (sym (length-map ts lexeme_of)) l;
  place = place_at w.done ts k (front w.done ts k w.is) w.place;
  none = w.none;
}

stopped : (x : Result Unit ParseEnd) (ts : List Token) → law.AreTokens ts → Parsed x ts → (k : ℕ) → x ≡ Err (end.TheVariants.Syntax k) → law.IsWrongAt ts (drop k ts) × (k ≤ length ts)
stopped x ts a h k e =
    let p = subst (λ y. Parsed y ts) e h in
    (subst (law.TellsTokens ts) p.1 (tokens_are_read ts a), p.0)

pub syntax : (x : Result Unit ParseEnd) (ts : List Token) → law.AreTokens ts → Parsed x ts → (k : ℕ) → x ≡ Err (end.TheVariants.Syntax k) → IsWrongAt (map lexeme_of ts) k
syntax x ts a h k e = let s = stopped x ts a h k e in wrong_at ts k s.1 s.0

-- ---- where they are too deep

why_deep : (ts : List Token) → law.IsTooDeep ts → IsNotFlat (lexemes ts)
why_deep ts (law.not_flat v rs n) = not_flat v rs n
why_deep ts (law.goes_deep first rest e p n d) = goes_deep first rest e p n d

deep_at : (ts rest : List Token) → law.IsDeepAt ts rest → IsTooDeep (lexemes ts)
deep_at ts rest d = record {
  first = lexemes d.done;
  rest = lexemes rest;
  is = ap lexemes d.is ∙ map-append lexeme_of d.done rest;
  begins = d.begins;
  deep = d.deep;
  why = why_deep ts d.why;
}

pub too_deep : (x : Result Unit ParseEnd) (ts : List Token) → law.AreTokens ts → Parsed x ts → x ≡ Err end.TheVariants.TooDeep → IsTooDeep (map lexeme_of ts)
too_deep x ts a h e =
    let p = subst (λ y. Parsed y ts) e h in
    deep_at ts p.0 (subst (law.TellsTokens ts) p.1 (tokens_are_read ts a))
