-- The steps of the loop over a text.
use Rattle.std.proofs.Common.{◌≡◌, ℕ, zero, suc, ◌+◌, ◌≤◌, ◌<◌, Bool, true, List, [], ◌∷◌, ◌++◌, length, take, drop, refl, sym, ◌∙◌, ap, subst, append_assoc, append-nil, arith}
use Rattle.c_lexer.specs.Separator.{leads_after}
use Rattle.c_lexer.specs.Cut.{Spot, Cuts, stop, separator, token, begin, Lexes, IsBad}
use Rattle.c_lexer.specs.Answer.{IsTokenOf}
use Rattle.tok_base.specs.declared.token.Kind.{Kind}
use Rattle.tok_base.specs.declared.token.Token.{Token}
use Rattle.c_lexer.specs.declared.piece.Piece.TheVariants.{Skipped, Taken, Neither}
use Rattle.c_lexer.specs.Scan.{piece}
use Rattle.c_lexer.specs.Loop.{spot, Kept}
use Rattle.c_lexer.proofs.Pieces.{behind, PieceTold, piece_told}

drop_drop : (n at : ℕ) (t : List ℕ) → drop n (drop at t) ≡ drop (at + n) t
drop_drop n zero t = ap (λ k. drop k t) (let e : n ≡ 0 + n = omega arith in e)
drop_drop zero (suc at) [] = ap (λ k. drop k []) (let e : suc at ≡ suc at + 0 = omega arith in e)
drop_drop (suc n) (suc at) [] = ap (λ k. drop k []) (let e : suc (at + suc n) ≡ suc at + suc n = omega arith in e)
drop_drop n (suc at) (b ∷ t) = drop_drop n at t ∙ ap (λ k. drop k (b ∷ t)) (let e : suc (at + n) ≡ suc at + n = omega arith in e)

length_drop : (at : ℕ) (t : List ℕ) → at ≤ length t → length (drop at t) + at ≡ length t
length_drop zero t h = omega arith
length_drop (suc at) [] h = absurd (omega arith)
length_drop (suc at) (b ∷ t) h = let k = length_drop at t (omega arith) in omega (arith, k)

spot_behind : (at n : ℕ) (lead : Bool) (t : List ℕ) → behind (spot at lead t) n ≡ spot (at + n) (leads_after lead (take n (drop at t))) t
spot_behind at n lead t = ap (λ r. record { at = at + n; lead = leads_after lead (take n (drop at t)); rest = r }) (drop_drop n at t)

pub kept_none : (t : List ℕ) → Kept t [] true 0
kept_none t = record { within = omega arith; joins = λ ts after c. c }

pub kept_skipped : (t : List ℕ) (tokens : List Token) (lead : Bool) (at n : ℕ) → Kept t tokens lead at → n ≤ length (drop at t) → piece lead (drop at t) ≡ Skipped n
    → Kept t tokens (leads_after lead (take n (drop at t))) (at + n)
kept_skipped t tokens lead at n h fits e =
    let told = subst (PieceTold (spot at lead t)) e (piece_told (spot at lead t)) in
    let P : Spot → Type 0 = λ s. (ts : List Token) (after : Spot) → Cuts s ts after → Cuts (begin t) (tokens ++ ts) after in
    let l = length_drop at t h.within in
    record { within = omega (arith, l); joins = subst P (spot_behind at n lead t) (λ ts after c. h.joins ts after (separator (spot at lead t) (behind (spot at lead t) n) after ts (told fits) c)) }

pub kept_taken : (t : List ℕ) (tokens : List Token) (lead : Bool) (at n : ℕ) (k : Kind) (u : Token) → Kept t tokens lead at → n ≤ length (drop at t) → piece lead (drop at t) ≡ Taken k n
    → IsTokenOf u k at (take n (drop at t)) → Kept t (tokens ++ u ∷ []) (leads_after lead (take n (drop at t))) (at + n)
kept_taken t tokens lead at n k u h fits e of =
    let told = subst (PieceTold (spot at lead t)) e (piece_told (spot at lead t)) in
    let P : Spot → Type 0 = λ s. (ts : List Token) (after : Spot) → Cuts s ts after → Cuts (begin t) ((tokens ++ u ∷ []) ++ ts) after in
    let Q : List Token → Spot → Type 0 = λ us after. Cuts (begin t) us after in
    let l = length_drop at t h.within in
    record {
      within = omega (arith, l);
      joins = subst P (spot_behind at n lead t) (λ ts after c.
          subst (λ us. Cuts (begin t) us after) (sym (append_assoc tokens (u ∷ []) ts)) (h.joins (u ∷ ts) after (token (spot at lead t) (behind (spot at lead t) n) after u ts (told fits u of) c)));
    }

drop_end : (at : ℕ) (t : List ℕ) → length t ≤ at → drop at t ≡ []
drop_end zero [] h = refl
drop_end zero (b ∷ t) h = absurd (omega arith)
drop_end (suc at) [] h = refl
drop_end (suc at) (b ∷ t) h = drop_end at t (omega arith)

pub kept_end : (t : List ℕ) (tokens : List Token) (lead : Bool) (at : ℕ) → Kept t tokens lead at → length t ≤ at → Lexes t tokens
kept_end t tokens lead at h l = record {
  after = spot at lead t;
  cut = subst (λ us. Cuts (begin t) us (spot at lead t)) (append-nil tokens) (h.joins [] (spot at lead t) (stop (spot at lead t)));
  all = drop_end at t l;
}

pub kept_bad : (t : List ℕ) (tokens : List Token) (lead : Bool) (at : ℕ) → Kept t tokens lead at → at < length t → piece lead (drop at t) ≡ Neither → IsBad t at
kept_bad t tokens lead at h l e = record {
  ts = tokens;
  spot = spot at lead t;
  cut = subst (λ us. Cuts (begin t) us (spot at lead t)) (append-nil tokens) (h.joins [] (spot at lead t) (stop (spot at lead t)));
  place = refl;
  more = λ none. (let size = length_drop at t h.within in let zero_len = ap length none in absurd (omega (arith, size, zero_len)));
  stuck = subst (PieceTold (spot at lead t)) e (piece_told (spot at lead t));
}

-- ---- the same, in the words of the code

pub at_skipped : (t : List ℕ) (tokens : List Token) (lead : Bool) (at n : ℕ) (rest w : List ℕ) (leads : Bool) → Kept t tokens lead at → rest ≡ drop at t → w ≡ take n rest
    → n ≤ length rest → Skipped n ≡ piece lead rest → leads ≡ leads_after lead w → Kept t tokens leads (at + n)
at_skipped t tokens lead at n rest w leads h e f fits p l =
    let fits2 = subst (λ r. n ≤ length r) e fits in
    subst (λ x. Kept t tokens x (at + n)) (sym (l ∙ ap (leads_after lead) (f ∙ ap (take n) e)))
    (kept_skipped t tokens lead at n h fits2 (sym (p ∙ ap (piece lead) e)))

pub at_taken : (t : List ℕ) (tokens : List Token) (lead : Bool) (at n : ℕ) (k : Kind) (u : Token) (rest w : List ℕ) (leads : Bool) (us : List Token) → Kept t tokens lead at → rest ≡ drop at t
    → w ≡ take n rest → n ≤ length rest → Taken k n ≡ piece lead rest → IsTokenOf u k at w → leads ≡ leads_after lead w → us ≡ tokens ++ u ∷ [] → Kept t us leads (at + n)
at_taken t tokens lead at n k u rest w leads us h e f fits p of l g =
    let fits2 = subst (λ r. n ≤ length r) e fits in
    let whole = f ∙ ap (take n) e in
    subst (λ x. Kept t x leads (at + n)) (sym g) (subst (λ x. Kept t (tokens ++ u ∷ []) x (at + n)) (sym (l ∙ ap (leads_after lead) whole))
    (kept_taken t tokens lead at n k u h fits2 (sym (p ∙ ap (piece lead) e)) (subst (λ x. IsTokenOf u k at x) whole of)))

pub at_neither : (t : List ℕ) (tokens : List Token) (lead : Bool) (at : ℕ) (rest : List ℕ) → Kept t tokens lead at → at < length t → rest ≡ drop at t → Neither ≡ piece lead rest → IsBad t at
at_neither t tokens lead at rest h l e p = kept_bad t tokens lead at h l (sym (p ∙ ap (piece lead) e))
