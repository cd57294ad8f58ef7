-- What the computed piece at a place says.
use Rattle.std.proofs.Common.{◌≡◌, ℕ, ◌+◌, ◌≤◌, true, false, eqb, List, [], ◌∷◌, length, take, drop, Option, Some, None, refl, sym, ◌∙◌, ap, subst, arith}
use Rattle.std.proofs.lemmas.Bool.{eqb-true, and_parts}
use Rattle.c_lexer.specs.Separator.{IsSeparator, leads_after}
use Rattle.c_lexer.specs.Longest.{Longest, NoneBegins}
use Rattle.c_lexer.specs.Token.{IsSpelling, IsToken}
use Rattle.c_lexer.specs.Cut.{Spot, Behind, SeparatorAt, NoSeparatorAt, TokenAt, IsStuck}
use Rattle.c_lexer.specs.Answer.{IsTokenOf}
use Rattle.tok_base.specs.declared.token.Kind.{Kind}
use Rattle.tok_base.specs.declared.token.Token.{Token}
use Rattle.c_lexer.specs.declared.piece.Piece.{Piece}
use Rattle.c_lexer.specs.declared.piece.Piece.TheVariants.{Skipped, Taken, Neither}
use Rattle.c_lexer.specs.Scan.{separator_len, spelling_len, kind_of, opens_comment, kinded, token_at, piece_at, piece}
use Rattle.c_lexer.proofs.Fronts.{by_test, cut_at, length_take, longest_same, Told}
use Rattle.c_lexer.proofs.Separators.{separator_told}
use Rattle.c_lexer.proofs.Spellings.{spelling_told}
use Rattle.c_lexer.proofs.KindLaws.{kind_found, kind_sound}

-- the place n bytes on
abbrev pub behind : Spot → ℕ → Spot
behind s n = record { at = s.at + n; lead = leads_after s.lead (take n s.rest); rest = drop n s.rest }

is_behind : (s : Spot) (n : ℕ) → n ≤ length s.rest → Behind s (take n s.rest) (behind s n)
is_behind s n h = record { at = (let l = length_take n s.rest h in omega (arith, l)); lead = refl; rest = cut_at n s.rest }

abbrev pub PieceTold : Spot → Piece → Type 0
PieceTold s (Skipped n) = n ≤ length s.rest → SeparatorAt s (behind s n)
PieceTold s (Taken k n) = n ≤ length s.rest → (t : Token) → IsTokenOf t k s.at (take n s.rest) → TokenAt s t (behind s n)
PieceTold s Neither = IsStuck s

opens : (t : List ℕ) → opens_comment t ≡ true → (more : List ℕ) × (t ≡ 47 ∷ 42 ∷ more)
opens [] h = absurd (cc)
opens (a ∷ []) h = absurd (cc)
opens (a ∷ b ∷ t) h =
    let p = and_parts (eqb a 47) (eqb b 42) h in let e : a ≡ 47 = eqb-true a 47 p.0 in let f : b ≡ 42 = eqb-true b 42 p.1 in
    (t, (let all : a ∷ b ∷ t ≡ 47 ∷ 42 ∷ t = cc in all))

no_separator : (s : Spot) → NoneBegins (IsSeparator s.lead) s.rest → (after : Spot) → SeparatorAt s after → ⊥
no_separator s h after x = h x.bytes after.rest x.is.here x.is.taken

apart : (s : Spot) → NoneBegins (IsSeparator s.lead) s.rest → opens_comment s.rest ≡ false → NoSeparatorAt s
apart s h k = record { whole = h; unclosed = λ more e. (let x : opens_comment s.rest ≡ true = ap opens_comment e in cc) }

kind_told : (s : Spot) (n : ℕ) (o : Option Kind) → NoneBegins (IsSeparator s.lead) s.rest → opens_comment s.rest ≡ false → Longest IsSpelling s.rest (take n s.rest) (drop n s.rest)
    → kind_of (take n s.rest) ≡ o → PieceTold s (kinded o n)
kind_told s n None h k l e = record {
  separator = no_separator s h;
  token = λ t after x. (let same = longest_same l x.is in let found = kind_found t.kind t.text x.kind in
      let clash : None ≡ Some t.kind = sym e ∙ ap kind_of same.0 ∙ found in cc);
}
kind_told s n (Some kind) h k l e = λ fits t of.
    let P : List ℕ → Type 0 = λ x. Longest IsSpelling s.rest x (drop n s.rest) in
    let Q : List ℕ → Type 0 = λ x. Behind s x (behind s n) in
    let is_kind : IsToken kind (take n s.rest) = kind_sound kind (take n s.rest) l.taken e in
    let K : Kind → Type 0 = λ x. IsToken x t.text in
    let size = length_take n s.rest fits in
    record {
      apart = apart s h k;
      is = subst P (sym of.text_is) l;
      kind = subst K (sym of.kind_is) (subst (IsToken kind) (sym of.text_is) is_kind);
      behind = subst Q (sym of.text_is) (is_behind s n fits);
      start = of.start_is;
      end = (let x = of.end_is in omega (arith, x, size));
    }

token_told : (s : Spot) (o : Option ℕ) → NoneBegins (IsSeparator s.lead) s.rest → opens_comment s.rest ≡ false → Told IsSpelling s.rest o → PieceTold s (token_at o s.rest)
token_told s None h k t = record { separator = no_separator s h; token = λ u after x. t u.text after.rest x.is.here x.is.taken }
token_told s (Some n) h k t = kind_told s n (kind_of (take n s.rest)) h k t refl

rest_told : (s : Spot) (o : Option ℕ) → Told (IsSeparator s.lead) s.rest o → PieceTold s (piece_at o s.rest)
rest_told s (Some n) t = λ fits. record { bytes = take n s.rest; is = t; behind = is_behind s n fits }
rest_told s None t =
    by_test (PieceTold s) (opens_comment s.rest) Neither (token_at (spelling_len s.rest) s.rest)
    (λ k. record { separator = no_separator s t; token = λ u after x. (let o = opens s.rest k in x.apart.unclosed o.0 o.1) })
    (λ k. token_told s (spelling_len s.rest) t k (spelling_told s.rest))

pub piece_told : (s : Spot) → PieceTold s (piece s.lead s.rest)
piece_told s = rest_told s (separator_len s.lead s.rest) (separator_told s.lead s.rest)
