-- Two texts of which no piece of the first reaches into the second lex together as they do apart.
use Rattle.std.proofs.Common.{◌≡◌, ◌≢◌, ℕ, ◌≤◌, List, [], ◌∷◌, ◌++◌, length, refl, sym, ◌∙◌, ap, subst, append_assoc, arith}
use Rattle.c_lexer.specs.Separator.{IsSeparator}
use Rattle.c_lexer.specs.Longest.{Longest, NoneBegins}
use Rattle.c_lexer.specs.Joined.{NoneCross}
use Rattle.c_lexer.specs.Token.{IsSpelling}
use Rattle.c_lexer.specs.Cut.{Spot, Behind, SeparatorAt, TokenAt, Cuts, stop, separator, token, begin}
use Rattle.tok_base.specs.declared.token.Token.{Token}
use Rattle.c_lexer.proofs.Separators.{separator_told}
use Rattle.c_lexer.proofs.Spellings.{spelling_told}
use Rattle.c_lexer.proofs.Places.{step_on}

abbrev pub with_more : List ℕ → Spot → Spot
with_more y s = record { at = s.at; lead = s.lead; rest = s.rest ++ y }

record Within (v r : List ℕ) : Type 0 where
  more : List ℕ
  is : r ≡ v ++ more

front_within : (v m r y : List ℕ) → r ++ y ≡ v ++ m → length v ≤ length r → Within v r
front_within [] m r y e l = record { more = r; is = refl }
front_within (b ∷ v) m [] y e l = absurd (omega arith)
front_within (b ∷ v) m (c ∷ r) y e l =
    let tails : r ++ y ≡ v ++ m = cc in let heads : c ≡ b = cc in
    let h = front_within v m r y tails (omega arith) in
    let is : r ≡ v ++ h.more = h.is in
    record { more = h.more; is = (let all : c ∷ r ≡ b ∷ (v ++ h.more) = cc in all) }

abbrev Bounded : (List ℕ → Type 0) → List ℕ → List ℕ → Type 0
Bounded P r y = (w more : List ℕ) → r ++ y ≡ w ++ more → P w → length w ≤ length r

longest_more : (P : List ℕ → Type 0) (r y w rest : List ℕ) → Bounded P r y → Longest P r w rest → Longest P (r ++ y) w (rest ++ y)
longest_more P r y w rest b l = record {
  taken = l.taken;
  here = ap (λ x. x ++ y) l.here ∙ append_assoc w rest y;
  longest = λ v m e p. (let h = front_within v m r y e (b v m e p) in l.longest v h.more h.is p);
}

none_more : (P : List ℕ → Type 0) (r y : List ℕ) → Bounded P r y → NoneBegins P r → NoneBegins P (r ++ y)
none_more P r y b n v m e p = let h = front_within v m r y e (b v m e p) in n v h.more h.is p

behind_more : (y : List ℕ) (s : Spot) (w : List ℕ) (a : Spot) → Behind s w a → Behind (with_more y s) w (with_more y a)
behind_more y s w a h = record { at = h.at; lead = h.lead; rest = ap (λ x. x ++ y) h.rest ∙ append_assoc w a.rest y }

not_empty_separator : (s a : Spot) → SeparatorAt s a → s.rest ≢ []
not_empty_separator s a x e = separator_told s.lead [] x.bytes a.rest (sym e ∙ x.is.here) x.is.taken

not_empty_token : (s a : Spot) (t : Token) → TokenAt s t a → s.rest ≢ []
not_empty_token s a t x e = spelling_told [] t.text a.rest (sym e ∙ x.is.here) x.is.taken

separator_more : (x y u : List ℕ) (s a : Spot) → NoneCross x y → x ≡ u ++ s.rest → SeparatorAt s a → SeparatorAt (with_more y s) (with_more y a)
separator_more x y u s a c e h = record {
  bytes = h.bytes;
  is = longest_more (IsSeparator s.lead) s.rest y h.bytes a.rest (λ w more f p. c.separator s.lead u s.rest w more e (not_empty_separator s a h) f p) h.is;
  behind = behind_more y s h.bytes a h.behind;
}

-- where /* stands at the front with y behind, it stands there without, or the text is a / alone
opened : (r y more : List ℕ) → r ≢ [] → r ++ y ≡ 47 ∷ 42 ∷ more → ((m : List ℕ) → r ≡ 47 ∷ 42 ∷ m → ⊥) → (r ≡ 47 ∷ [] → y ≡ 42 ∷ more → ⊥) → ⊥
opened [] y more n e f g = n refl
opened (b ∷ []) y more n e f g = let h : b ≡ 47 = cc in let t : y ≡ 42 ∷ more = cc in g (ap (λ z. z ∷ []) h) t
opened (b ∷ d ∷ r) y more n e f g = f r (let h : b ≡ 47 = cc in let k : d ≡ 42 = cc in let all : b ∷ d ∷ r ≡ 47 ∷ 42 ∷ r = cc in all)

token_more : (x y u : List ℕ) (s a : Spot) (t : Token) → NoneCross x y → x ≡ u ++ s.rest → TokenAt s t a → TokenAt (with_more y s) t (with_more y a)
token_more x y u s a t c e h = record {
  apart = record {
    whole = none_more (IsSeparator s.lead) s.rest y (λ w more f p. c.separator s.lead u s.rest w more e (not_empty_token s a t h) f p) h.apart.whole;
    unclosed = λ more f. opened s.rest y more (not_empty_token s a t h) f h.apart.unclosed (λ g k. c.opens u more (e ∙ ap (λ z. u ++ z) g) k);
  };
  is = longest_more IsSpelling s.rest y t.text a.rest (λ w more f p. c.spelling u s.rest w more e (not_empty_token s a t h) f p) h.is;
  kind = h.kind;
  behind = behind_more y s t.text a h.behind;
  start = h.start;
  end = h.end;
}

pub cuts_more : (x y : List ℕ) → NoneCross x y → (u : List ℕ) (s a : Spot) (ts : List Token) → Cuts s ts a → x ≡ u ++ s.rest → Cuts (with_more y s) ts (with_more y a)
cuts_more x y c u _ _ _ (stop s) e = stop (with_more y s)
cuts_more x y c u _ _ _ (separator s n a ts h k) e =
    separator (with_more y s) (with_more y n) (with_more y a) ts (separator_more x y u s n c e h) (cuts_more x y c (u ++ h.bytes) n a ts k (step_on x u h.bytes s n e h.behind))
cuts_more x y c u _ _ _ (token s n a t ts h k) e =
    token (with_more y s) (with_more y n) (with_more y a) t ts (token_more x y u s n t c e h) (cuts_more x y c (u ++ t.text) n a ts k (step_on x u t.text s n e h.behind))

pub cuts_append : (s a : Spot) (ts : List Token) → Cuts s ts a → (b : Spot) (us : List Token) → Cuts a us b → Cuts s (ts ++ us) b
cuts_append _ _ _ (stop s) = λ b us k. k
cuts_append _ _ _ (separator s n a ts h k) = λ b us m. separator s n b (ts ++ us) h (cuts_append n a ts k b us m)
cuts_append _ _ _ (token s n a t ts h k) = λ b us m. token s n b t (ts ++ us) h (cuts_append n a ts k b us m)

-- the first is cut to its end at a, and the second from there
pub joined : (x y : List ℕ) (ts us : List Token) (a b : Spot) → NoneCross x y → Cuts (begin x) ts a → a.rest ≡ [] → Cuts (record { at = a.at; lead = a.lead; rest = y }) us b → Cuts (begin (x ++ y)) (ts ++ us) b
joined x y ts us a b c k e m =
    let P : List ℕ → Type 0 = λ z. Cuts (record { at = a.at; lead = a.lead; rest = z }) us b in
    let m2 = subst P (sym (ap (λ z. z ++ y) e)) m in
    cuts_append (with_more y (begin x)) (with_more y a) ts (cuts_more x y c [] (begin x) a ts k refl) b us m2
