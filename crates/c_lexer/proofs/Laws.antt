-- A text lexes in one way, or is bad at one place.
use Rattle.std.proofs.Common.{◌≡◌, ℕ, ◌+◌, List, [], ◌∷◌, length, Result, Ok, Err, IfOk, Some, refl, sym, ◌∙◌, ap, subst}
use Rattle.c_lexer.specs.Separator.{leads_after}
use Rattle.c_lexer.specs.Cut.{Spot, Behind, SeparatorAt, TokenAt, Cuts, stop, separator, token, begin, Lexes, IsStuck, IsBad}
use Rattle.c_lexer.specs.Answer.{Outcome, Gives, Refuses}
use Rattle.tok_base.specs.declared.token.Span.{Span}
use Rattle.tok_base.specs.declared.token.Token.{Token}
use Rattle.c_lexer.specs.declared.token.LexEnd.{LexEnd}
use Rattle.c_lexer.specs.declared.token.LexEnd.TheVariants.{Bad, NoMemory}
use Rattle.c_lexer.proofs.Fronts.{longest_same}
use Rattle.c_lexer.proofs.Separators.{separator_told}
use Rattle.c_lexer.proofs.Spellings.{spelling_told}
use Rattle.c_lexer.specs.Scan.{kind_of}
use Rattle.c_lexer.proofs.KindLaws.{kind_found}

spot_same : (a b : Spot) → a.at ≡ b.at → a.lead ≡ b.lead → a.rest ≡ b.rest → a ≡ b
spot_same a b e f g = λ i. record { at = e i; lead = f i; rest = g i }

span_same : (a b : Span) → a.start ≡ b.start → a.end ≡ b.end → a ≡ b
span_same a b e f = λ i. record { start = e i; end = f i }

token_is : (a b : Token) → a.kind ≡ b.kind → a.span ≡ b.span → a.text ≡ b.text → a ≡ b
token_is a b e f g = λ i. record { kind = e i; span = f i; text = g i }

behind_same : (s : Spot) (v w : List ℕ) (a b : Spot) → v ≡ w → a.rest ≡ b.rest → Behind s v a → Behind s w b → a ≡ b
behind_same s v w a b e f x y =
    spot_same a b (x.at ∙ ap (λ z. s.at + length z) e ∙ sym y.at) (x.lead ∙ ap (leads_after s.lead) e ∙ sym y.lead) f

separator_same : (s a b : Spot) → SeparatorAt s a → SeparatorAt s b → a ≡ b
separator_same s a b x y = let l = longest_same x.is y.is in behind_same s x.bytes y.bytes a b l.0 l.1 x.behind y.behind

pub token_same : (s a b : Spot) (t u : Token) → TokenAt s t a → TokenAt s u b → (t ≡ u) × (a ≡ b)
token_same s a b t u x y =
    let l = longest_same x.is y.is in
    let after = behind_same s t.text u.text a b l.0 l.1 x.behind y.behind in
    let kinds : Some t.kind ≡ Some u.kind = sym (kind_found t.kind t.text x.kind) ∙ ap (λ w. kind_of w) l.0 ∙ kind_found u.kind u.text y.kind in
    let kind : t.kind ≡ u.kind = cc in
    (token_is t u kind (span_same t.span u.span (x.start ∙ sym y.start) (x.end ∙ ap (λ z. z.at) after ∙ sym y.end)) l.0, after)

pub apart : (s a b : Spot) (t : Token) → SeparatorAt s a → TokenAt s t b → ⊥
apart s a b t x y = y.apart.whole x.bytes a.rest x.is.here x.is.taken

pub record Same (ts us : List Token) (a b : Spot) : Type 0 where
  pub tokens : ts ≡ us
  pub places : a ≡ b

after_stop : (s b : Spot) (us : List Token) → Cuts s us b → IsStuck s → Same [] us s b
after_stop _ _ _ (stop s) k = record { tokens = refl; places = refl }
after_stop _ _ _ (separator s n b us x y) k = absurd (k.separator n x)
after_stop _ _ _ (token s n b t us x y) k = absurd (k.token t n x)

abbrev Rest : Spot → Spot → List Token → Type 0
Rest n a ts = (b : Spot) (us : List Token) → Cuts n us b → IsStuck a → IsStuck b → Same ts us a b

after_separator : (s n a : Spot) (ts : List Token) → SeparatorAt s n → Rest n a ts → (b : Spot) (us : List Token) → Cuts s us b → IsStuck a → IsStuck b → Same ts us a b
after_separator _ n a ts x rest _ _ (stop s) k l = absurd (l.separator n x)
after_separator _ n a ts x rest _ _ (separator s m b us x2 y) k l =
    let P : Spot → Type 0 = λ z. Cuts z us b in rest b us (subst P (sym (separator_same s n m x x2)) y) k l
after_separator _ n a ts x rest _ _ (token s m b t us x2 y) k l = absurd (apart s n m t x x2)

after_token : (s n a : Spot) (t : Token) (ts : List Token) → TokenAt s t n → Rest n a ts → (b : Spot) (us : List Token) → Cuts s us b → IsStuck a → IsStuck b → Same (t ∷ ts) us a b
after_token _ n a t ts x rest _ _ (stop s) k l = absurd (l.token t n x)
after_token _ n a t ts x rest _ _ (separator s m b us x2 y) k l = absurd (apart s m n t x2 x)
after_token _ n a t ts x rest _ _ (token s m b u us x2 y) k l =
    let e = token_same s n m t u x x2 in
    let P : Spot → Type 0 = λ z. Cuts z us b in
    let r = rest b us (subst P (sym e.1) y) k l in
    let head : t ≡ u = e.0 in let tail : ts ≡ us = r.tokens in
    record { tokens = (let all : t ∷ ts ≡ u ∷ us = cc in all); places = r.places }

-- a text is cut in one way, up to where it is stuck
pub stops_same : (s a : Spot) (ts : List Token) → Cuts s ts a → Rest s a ts
stops_same _ _ _ (stop s) = λ b us y k l. after_stop s b us y k
stops_same _ _ _ (separator s n a ts x c) = after_separator s n a ts x (stops_same n a ts c)
stops_same _ _ _ (token s n a t ts x c) = after_token s n a t ts x (stops_same n a ts c)

end_stuck : (s : Spot) → s.rest ≡ [] → IsStuck s
end_stuck s e = record {
  separator = λ after x. separator_told s.lead [] x.bytes after.rest (sym e ∙ x.is.here) x.is.taken;
  token = λ t after x. spelling_told [] t.text after.rest (sym e ∙ x.is.here) x.is.taken;
}

pub lexes_same : (bytes : List ℕ) (ts us : List Token) → Lexes bytes ts → Lexes bytes us → ts ≡ us
lexes_same bytes ts us x y = (stops_same (begin bytes) x.after ts x.cut y.after us y.cut (end_stuck x.after x.all) (end_stuck y.after y.all)).tokens

pub bad_same : (bytes : List ℕ) (p q : ℕ) → IsBad bytes p → IsBad bytes q → p ≡ q
bad_same bytes p q x y = sym x.place ∙ ap (λ z. z.at) (stops_same (begin bytes) x.spot x.ts x.cut y.spot y.ts y.cut x.stuck y.stuck).places ∙ y.place

pub bad_excludes : (bytes : List ℕ) (p : ℕ) (ts : List Token) → IsBad bytes p → Lexes bytes ts → ⊥
bad_excludes bytes p ts x y =
    x.more (ap (λ z. z.rest) (stops_same (begin bytes) x.spot x.ts x.cut y.after ts y.cut x.stuck (end_stuck y.after y.all)).places ∙ y.all)

-- ---- what lex promises, from its outcome

pub only : (bytes : List ℕ) (r : Result (List Token) LexEnd) → Outcome bytes r → (ts : List Token) → Lexes bytes ts → Gives ts r
only bytes (Ok us) h ts k = lexes_same bytes us ts h k
only bytes (Err (Bad p)) h ts k = bad_excludes bytes p ts h k
only bytes (Err NoMemory) h ts k = tt

pub only_bad : (bytes : List ℕ) (r : Result (List Token) LexEnd) → Outcome bytes r → (p : ℕ) → IsBad bytes p → Refuses p r
only_bad bytes (Ok us) h p k = bad_excludes bytes p us k h
only_bad bytes (Err (Bad q)) h p k = bad_same bytes q p h k
only_bad bytes (Err NoMemory) h p k = tt

pub found : (bytes : List ℕ) (r : Result (List Token) LexEnd) → Outcome bytes r → IfOk r (λ ts. Lexes bytes ts)
found bytes (Ok us) h = h
found bytes (Err e) h = tt

pub bad : (bytes : List ℕ) (r : Result (List Token) LexEnd) → Outcome bytes r → (p : ℕ) → r ≡ Err (Bad p) → IsBad bytes p
bad bytes r h p e = let P : Result (List Token) LexEnd → Type 0 = λ x. Outcome bytes x in subst P e h
