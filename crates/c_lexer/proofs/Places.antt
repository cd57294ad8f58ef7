-- Where the tokens of a text stand, and how far its pieces go.
use Rattle.std.proofs.Common.{◌≡◌, ◌≢◌, ℕ, ◌+◌, ◌<◌, List, [], ◌∷◌, ◌++◌, length, map, All, refl, sym, ◌∙◌, ap, append_assoc, length-append, arith}
use Rattle.std.proofs.lemmas.List.Elements.{All-nil, All-cons}
use Rattle.c_lexer.specs.Token.{IsToken}
use Rattle.c_lexer.specs.Cut.{Spot, Behind, Cuts, stop, separator, token, begin, Lexes, IsBad}
use Rattle.c_lexer.specs.Place.{StandsIn}
use Rattle.c_lexer.specs.Lexeme.{lexeme_of, LexesTo}
use Rattle.tok_base.specs.declared.token.Token.{Token}
use Rattle.tok_base.specs.declared.token.Lexeme.{Lexeme}
use Rattle.c_lexer.proofs.Spellings.{spelling_told}
use Rattle.c_lexer.proofs.Laws.{lexes_same}

kinds : (s a : Spot) (ts : List Token) → Cuts s ts a → All (λ t. IsToken t.kind t.text) ts
kinds _ _ _ (stop s) = All-nil (λ t. IsToken t.kind t.text)
kinds _ _ _ (separator s n a ts h k) = kinds n a ts k
kinds _ _ _ (token s n a t ts h k) = All-cons (λ t. IsToken t.kind t.text) t ts h.kind (kinds n a ts k)

pub tokens_are : (bytes : List ℕ) (ts : List Token) → Lexes bytes ts → All (λ t. IsToken t.kind t.text) ts
tokens_are bytes ts h = kinds (begin bytes) h.after ts h.cut

-- x is u, the piece, and what is still to come
pub step_on : (x u w : List ℕ) (s a : Spot) → x ≡ u ++ s.rest → Behind s w a → x ≡ (u ++ w) ++ a.rest
step_on x u w s a e h = e ∙ ap (λ z. u ++ z) h.rest ∙ sym (append_assoc u w a.rest)

far : (u w : List ℕ) (s a : Spot) → s.at ≡ length u → Behind s w a → a.at ≡ length (u ++ w)
far u w s a e h = h.at ∙ ap (λ n. n + length w) e ∙ sym (length-append u w)

stand : (x u : List ℕ) (s a : Spot) (ts : List Token) → Cuts s ts a → x ≡ u ++ s.rest → s.at ≡ length u → All (StandsIn x) ts
stand x u _ _ _ (stop s) e f = All-nil (StandsIn x)
stand x u _ _ _ (separator s n a ts h k) e f = stand x (u ++ h.bytes) n a ts k (step_on x u h.bytes s n e h.behind) (far u h.bytes s n f h.behind)
stand x u _ _ _ (token s n a t ts h k) e f =
    All-cons (StandsIn x) t ts
    (record {
      before = u;
      behind = n.rest;
      is = e ∙ ap (λ z. u ++ z) h.behind.rest;
      start = h.start ∙ f;
      end = h.end ∙ h.behind.at ∙ ap (λ m. m + length t.text) f;
      some = λ none. spelling_told [] t.text [] (sym none ∙ sym (nil_right t.text)) h.is.taken;
    })
    (stand x (u ++ t.text) n a ts k (step_on x u t.text s n e h.behind) (far u t.text s n f h.behind))
  where
    nil_right : (w : List ℕ) → w ++ [] ≡ w
    nil_right [] = refl
    nil_right (b ∷ w) = ap (λ z. b ∷ z) (nil_right w)

pub tokens_stand : (bytes : List ℕ) (ts : List Token) → Lexes bytes ts → All (StandsIn bytes) ts
tokens_stand bytes ts h = stand bytes [] (begin bytes) h.after ts h.cut refl refl

-- ---- a bad place is in the text

far_end : (x u : List ℕ) (s a : Spot) (ts : List Token) → Cuts s ts a → x ≡ u ++ s.rest → s.at ≡ length u → length x ≡ a.at + length a.rest
far_end x u _ _ _ (stop s) e f = ap (λ z. length z) e ∙ length-append u s.rest ∙ ap (λ n. n + length s.rest) (sym f)
far_end x u _ _ _ (separator s n a ts h k) e f = far_end x (u ++ h.bytes) n a ts k (step_on x u h.bytes s n e h.behind) (far u h.bytes s n f h.behind)
far_end x u _ _ _ (token s n a t ts h k) e f = far_end x (u ++ t.text) n a ts k (step_on x u t.text s n e h.behind) (far u t.text s n f h.behind)

some_length : (r : List ℕ) → r ≢ [] → 0 < length r
some_length [] n = absurd (n refl)
some_length (b ∷ r) n = omega arith

pub bad_within : (bytes : List ℕ) (p : ℕ) → IsBad bytes p → p < length bytes
bad_within bytes p h =
    let e = far_end bytes [] (begin bytes) h.spot h.ts h.cut refl refl in
    let l = some_length h.spot.rest h.more in
    let q = h.place in
    omega (arith, e, l, q)

-- ---- a text is one list of lexemes

pub lexemes_same : (bytes : List ℕ) (ls ms : List Lexeme) → LexesTo bytes ls → LexesTo bytes ms → ls ≡ ms
lexemes_same bytes ls ms x y = sym x.are ∙ ap (λ ts. map lexeme_of ts) (lexes_same bytes x.tokens y.tokens x.lexes y.lexes) ∙ y.are
