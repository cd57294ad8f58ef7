-- A token's spelling, with a space or LF behind it, is read as that token.
use Rattle.std.proofs.Common.{◌≡◌, ℕ, ◌+◌, ◌≤◌, Bool, true, false, not, ◌&&◌, ◌||◌, eqb, List, [], ◌∷◌, ◌++◌, length, Some, refl, sym, ◌∙◌, ap, subst, arith}
use Rattle.std.specs.Prelude.{◌==◌}
use Rattle.std.proofs.lemmas.Bool.{and_parts}
use Rattle.std.proofs.lemmas.Bool.Decides.{nat_tests}
use Rattle.c_lexer.specs.Bytes.{Each, is_blank, is_digit, is_letter, is_name_byte}
use Rattle.c_lexer.specs.Number.{NumberTail, is_number_byte, is_exponent, is_sign}
use Rattle.c_lexer.specs.Number as number
use Rattle.c_lexer.specs.Literal.{IsChar, IsText}
use Rattle.c_lexer.specs.Mark.{marks, is_mark}
use Rattle.c_lexer.specs.Separator.{IsSeparator, leads_after}
use Rattle.c_lexer.specs.Longest.{Longest}
use Rattle.c_lexer.specs.Token.{IsSpelling, IsToken}
use Rattle.c_lexer.specs.Cut.{Spot, Behind, SeparatorAt, TokenAt}
use Rattle.c_lexer.specs.Answer.{IsTokenOf}
use Rattle.c_lexer.specs.declared.spelling.First.{First}
use Rattle.c_lexer.specs.declared.spelling.First.TheVariants.{Letter, Digit, Dot, Single, Double, Other}
use Rattle.tok_base.specs.declared.token.Kind.{Kind}
use Rattle.tok_base.specs.declared.token.Kind.TheVariants.{Char, Text, Mark}
use Rattle.tok_base.specs.declared.token.Token.{Token}
use Rattle.c_lexer.specs.Scan.{class_of, kind_at}
use Rattle.c_lexer.specs.Printed.{IsGap, Written, AreTokens, print, placed}
use Rattle.c_lexer.specs.Cut.{Cuts, stop, separator, token, Lexes}
use Rattle.c_lexer.proofs.Fronts.{clash}
use Rattle.c_lexer.proofs.Tables.{table_law, each_byte}
use Rattle.c_lexer.proofs.Separators.{blank_told, s_blank, s_comment, s_line, s_marker, shape}
use Rattle.c_lexer.proofs.Spellings.{Says, class_says, sp_name, sp_digit, sp_point, sp_char, sp_text, sp_mark, spelled, nothing, IsLiteral, literal_found, char_literal, text_literal}
use Rattle.c_lexer.proofs.KindLaws.{token_spelling, kind_found, each_of}

abbrev not_gap : ℕ → Bool
not_gap b = not (b == 32 || b == 10)

gap_clash : (b : ℕ) → IsGap b → not_gap b ≡ true → ⊥
gap_clash b h k = go (b == 32 || b == 10) h k
  where
    go : (x : Bool) → x ≡ true → not x ≡ true → ⊥
    go true e f = cc
    go false e f = cc

-- what holds no gap stops before the gap
stops : (v m w : List ℕ) (b : ℕ) (more : List ℕ) → IsGap b → Each not_gap v → v ++ m ≡ w ++ b ∷ more → length v ≤ length w
stops [] m w b more g h e = omega arith
stops (x ∷ v) m [] b more g h e = let same : x ≡ b = cc in absurd (gap_clash b g (subst (λ y. not_gap y ≡ true) same h.0))
stops (x ∷ v) m (y ∷ w) b more g h e = let tails : v ++ m ≡ w ++ b ∷ more = cc in let k = stops v m w b more g h.1 tails in omega (arith, k)

letter_gap : (b : ℕ) → is_letter b ≡ true → not_gap b ≡ true
letter_gap b h = grind (arith, nat_tests)

digit_gap : (b : ℕ) → is_digit b ≡ true → not_gap b ≡ true
digit_gap b h = grind (arith, nat_tests)

name_gap : (b : ℕ) → is_name_byte b ≡ true → not_gap b ≡ true
name_gap b h = grind (arith, nat_tests)

number_gap : (b : ℕ) → is_number_byte b ≡ true → not_gap b ≡ true
number_gap b h = grind (arith, nat_tests)

exponent_gap : (b : ℕ) → is_exponent b ≡ true → not_gap b ≡ true
exponent_gap b h = grind (arith, nat_tests)

sign_gap : (b : ℕ) → is_sign b ≡ true → not_gap b ≡ true
sign_gap b h = grind (arith, nat_tests)

names_gap : (w : List ℕ) → Each is_name_byte w → Each not_gap w
names_gap [] h = tt
names_gap (b ∷ w) h = (name_gap b h.0, names_gap w h.1)

tail_gap : (w : List ℕ) → NumberTail w → Each not_gap w
tail_gap _ number.none = tt
tail_gap _ (number.more b w h t) = (number_gap b h, tail_gap w t)
tail_gap _ (number.sign e s w h k t) = (exponent_gap e h, (sign_gap s k, tail_gap w t))

mark_gap : (w : List ℕ) → is_mark w ≡ true → Each not_gap w
unfolding marks
mark_gap w h = each_of not_gap w (table_law (each_byte not_gap) marks w refl h)

-- ---- no other spelling is longer

kind_single : (k : Kind) (b : ℕ) (w : List ℕ) → class_of b ≡ Single → IsToken k (b ∷ w) → IsChar (b ∷ w)
kind_single k b w c h =
    let e : Some Char ≡ Some k = sym (ap (λ x. kind_at x (b ∷ w)) c) ∙ kind_found k (b ∷ w) h in
    let same : k ≡ Char = cc in let P : Kind → Type 0 = λ x. IsToken x (b ∷ w) in subst P same h

kind_double : (k : Kind) (b : ℕ) (w : List ℕ) → class_of b ≡ Double → IsToken k (b ∷ w) → IsText (b ∷ w)
kind_double k b w c h =
    let e : Some Text ≡ Some k = sym (ap (λ x. kind_at x (b ∷ w)) c) ∙ kind_found k (b ∷ w) h in
    let same : k ≡ Text = cc in let P : Kind → Type 0 = λ x. IsToken x (b ∷ w) in subst P same h

literals_same : (q : ℕ) (t v m w r : List ℕ) → eqb 92 q ≡ false → q ∷ t ≡ v ++ m → IsLiteral q v → q ∷ t ≡ w ++ r → IsLiteral q w → length v ≤ length w
literals_same q t v m w r z e h f k =
    let x = literal_found q t v m z e h in let y = literal_found q t w r z f k in
    let same : Some x.0 ≡ Some y.0 = sym x.1 ∙ y.1 in let n : x.0 ≡ y.0 = cc in let l = x.2 in let l2 = y.2 in omega (arith, n, l, l2)

no_longer : (k : Kind) (c : ℕ) (w : List ℕ) (b : ℕ) (more v m : List ℕ) → IsGap b → IsToken k (c ∷ w) → (c ∷ w) ++ b ∷ more ≡ v ++ m → IsSpelling v → length v ≤ length (c ∷ w)
no_longer k c w b more v m g h e i = elim (spelled c (w ++ b ∷ more) v m e i) [
  | sp_name x u y z n ↦ stops v m (c ∷ w) b more g (subst (Each not_gap) (sym y) (letter_gap c (let P : First → Type 0 = λ z2. Says z2 c in subst P x (class_says c)), names_gap u n)) (sym e)
  | sp_digit x u y z n ↦ stops v m (c ∷ w) b more g (subst (Each not_gap) (sym y) (digit_gap c (let P : First → Type 0 = λ z2. Says z2 c in subst P x (class_says c)), tail_gap u n)) (sym e)
  | sp_point x d u y z n o ↦ stops v m (c ∷ w) b more g (subst (Each not_gap) (sym y) (let dot : c ≡ 46 = (let P : First → Type 0 = λ z2. Says z2 c in subst P x (class_says c)) in ap not_gap dot, (digit_gap d n, tail_gap u o))) (sym e)
  | sp_char x l ↦ (let q : c ≡ 39 = (let P : First → Type 0 = λ z2. Says z2 c in subst P x (class_says c)) in
      literals_same c (w ++ b ∷ more) v m (c ∷ w) (b ∷ more) (ap (eqb 92) q) e l refl (subst (λ y. IsLiteral y (c ∷ w)) (sym q) (char_literal (c ∷ w) (kind_single k c w x h))))
  | sp_text x l ↦ (let q : c ≡ 34 = (let P : First → Type 0 = λ z2. Says z2 c in subst P x (class_says c)) in
      literals_same c (w ++ b ∷ more) v m (c ∷ w) (b ∷ more) (ap (eqb 92) q) e l refl (subst (λ y. IsLiteral y (c ∷ w)) (sym q) (text_literal (c ∷ w) (kind_double k c w x h))))
  | sp_mark x n ↦ stops v m (c ∷ w) b more g (mark_gap v n) (sym e)
]

-- ---- no separator begins there

abbrev next_apart : List ℕ → Bool
next_apart [] = true
next_apart (d ∷ w) = not (d == 42 || d == 47)

abbrev apart_test : List ℕ → Bool
apart_test [] = false
apart_test (c ∷ w) = not (is_blank c) && not (c == 35) && (not (c == 47) || next_apart w)

marks_apart : (w : List ℕ) → is_mark w ≡ true → apart_test w ≡ true
unfolding marks
marks_apart w h = table_law apart_test marks w refl h

record Apart (c : ℕ) (w : List ℕ) : Type 0 where
  blank : is_blank c ≡ false
  hash : c ≡ 35 → ⊥
  slash : c ≡ 47 → next_apart w ≡ true

test_apart : (c : ℕ) (w : List ℕ) → apart_test (c ∷ w) ≡ true → Apart c w
test_apart c w h =
    let p = and_parts (not (is_blank c) && not (c == 35)) (not (c == 47) || next_apart w) h in
    let q = and_parts (not (is_blank c)) (not (c == 35)) p.0 in
    record {
      blank = not_true (is_blank c) q.0;
      hash = λ e. (let x : not (35 == 35) ≡ true = subst (λ y. not (y == 35) ≡ true) e q.1 in cc);
      slash = λ e. (let x : (not (47 == 47) || next_apart w) ≡ true = subst (λ y. (not (y == 47) || next_apart w) ≡ true) e p.1 in x);
    }
  where
    not_true : (x : Bool) → not x ≡ true → x ≡ false
    not_true true h = cc
    not_true false h = refl

letter_apart : (c : ℕ) (w : List ℕ) → is_letter c ≡ true → Apart c w
letter_apart c w h = record { blank = no c h; hash = λ e. clash is_letter c 35 h e refl; slash = λ e. absurd (clash is_letter c 47 h e refl) }
  where
    no : (c : ℕ) → is_letter c ≡ true → is_blank c ≡ false
    no c h = grind (arith, nat_tests)

digit_apart : (c : ℕ) (w : List ℕ) → is_digit c ≡ true → Apart c w
digit_apart c w h = record { blank = no c h; hash = λ e. clash is_digit c 35 h e refl; slash = λ e. absurd (clash is_digit c 47 h e refl) }
  where
    no : (c : ℕ) → is_digit c ≡ true → is_blank c ≡ false
    no c h = grind (arith, nat_tests)

byte_apart : (n : ℕ) (c : ℕ) (w : List ℕ) → is_blank n ≡ false → (n ≡ 35 → ⊥) → (n ≡ 47 → ⊥) → c ≡ n → Apart c w
byte_apart n c w b h s e = record { blank = ap is_blank e ∙ b; hash = λ x. h (sym e ∙ x); slash = λ x. absurd (s (sym e ∙ x)) }

class_apart : (f : First) (c : ℕ) (w : List ℕ) → Says f c → (f ≡ Other → Apart c w) → Apart c w
class_apart Letter c w h k = letter_apart c w h
class_apart Digit c w h k = digit_apart c w h
class_apart Dot c w h k = byte_apart 46 c w refl (λ e. absurd (omega (arith, e))) (λ e. absurd (omega (arith, e))) h
class_apart Single c w h k = byte_apart 39 c w refl (λ e. absurd (omega (arith, e))) (λ e. absurd (omega (arith, e))) h
class_apart Double c w h k = byte_apart 34 c w refl (λ e. absurd (omega (arith, e))) (λ e. absurd (omega (arith, e))) h
class_apart Other c w h k = k refl

other_mark : (k : Kind) (c : ℕ) (w : List ℕ) → class_of c ≡ Other → IsToken k (c ∷ w) → is_mark (c ∷ w) ≡ true
other_mark k c w e h =
    let x : Some Mark ≡ Some k = sym (ap (λ y. kind_at y (c ∷ w)) e) ∙ kind_found k (c ∷ w) h in
    let same : k ≡ Mark = cc in let P : Kind → Type 0 = λ y. IsToken y (c ∷ w) in subst P same h

token_apart : (k : Kind) (c : ℕ) (w : List ℕ) → IsToken k (c ∷ w) → Apart c w
token_apart k c w h = class_apart (class_of c) c w (class_says c) (λ e. test_apart c w (marks_apart (c ∷ w) (other_mark k c w e h)))

-- behind a / of a token no * or / stands
next_byte : (w : List ℕ) (b : ℕ) (more : List ℕ) (d : ℕ) (t : List ℕ) → IsGap b → next_apart w ≡ true → w ++ b ∷ more ≡ d ∷ t → (d == 42 || d == 47) ≡ true → ⊥
next_byte [] b more d t g h e k = let same : b ≡ d = cc in two b g (subst (λ x. (x == 42 || x == 47) ≡ true) (sym same) k)
  where
    two : (b : ℕ) → (b == 32 || b == 10) ≡ true → (b == 42 || b == 47) ≡ true → ⊥
    two b g h = absurd (grind (arith, nat_tests))
next_byte (x ∷ w) b more d t g h e k = let same : x ≡ d = cc in both (x == 42 || x == 47) (subst (λ y. (y == 42 || y == 47) ≡ true) (sym same) k) h
  where
    both : (y : Bool) → y ≡ true → not y ≡ true → ⊥
    both true e f = cc
    both false e f = cc

no_separator : (lead : Bool) (c : ℕ) (w : List ℕ) (b : ℕ) (more v m : List ℕ) → IsGap b → Apart c w → (c ∷ w) ++ b ∷ more ≡ v ++ m → IsSeparator lead v → ⊥
no_separator lead c w b more v m g a e i = elim (shape lead c (w ++ b ∷ more) v m e i) [
  | s_blank x l ↦ (let y = a.blank in let no : true ≡ false = sym x ∙ y in cc)
  | s_comment body x y n l ↦ next_byte w b more 42 (body ++ 42 ∷ 47 ∷ m) g (a.slash x) y refl
  | s_line body x y n l ↦ next_byte w b more 47 (body ++ m) g (a.slash x) y refl
  | s_marker spaces d led x y z dir n l ↦ a.hash x
]

pub token_before_gap : (k : Kind) (w : List ℕ) (b : ℕ) (more : List ℕ) (s : Spot) (t : Token) → IsToken k w → IsGap b → s.rest ≡ w ++ b ∷ more → IsTokenOf t k s.at w
    → TokenAt s t (record { at = s.at + length w; lead = leads_after s.lead w; rest = b ∷ more })
token_before_gap k [] b more s t h g e of = absurd (nothing [] refl (token_spelling k [] h))
token_before_gap k (c ∷ w) b more s t h g e of =
    let a = token_apart k c w h in
    let K : Kind → Type 0 = λ x. IsToken x (c ∷ w) in
    let after : Spot = record { at = s.at + length (c ∷ w); lead = leads_after s.lead (c ∷ w); rest = b ∷ more } in
    let P : List ℕ → Type 0 = λ x. Longest IsSpelling s.rest x (b ∷ more) in
    let B : List ℕ → Type 0 = λ x. Behind s x (record { at = s.at + length (c ∷ w); lead = leads_after s.lead (c ∷ w); rest = b ∷ more }) in
    let text_is = sym of.text_is in
    record {
      apart = record {
        whole = λ v m x i. no_separator s.lead c w b more v m g a (sym e ∙ x) i;
        unclosed = λ m x. (let both : (c ∷ w) ++ b ∷ more ≡ 47 ∷ 42 ∷ m = sym e ∙ x in let first : c ≡ 47 = cc in let next : w ++ b ∷ more ≡ 42 ∷ m = cc in
            next_byte w b more 42 m g (a.slash first) next refl);
      };
      is = subst P text_is (record { taken = token_spelling k (c ∷ w) h; here = e; longest = λ v m x i. no_longer k c w b more v m g h (sym e ∙ x) i });
      kind = subst (λ x. IsToken x t.text) (sym of.kind_is) (subst (IsToken k) text_is h);
      behind = subst B text_is (record { at = refl; lead = refl; rest = e });
      start = of.start_is;
      end = of.end_is;
    }

-- ---- a whole text

gap_blank : (b : ℕ) → IsGap b → is_blank b ≡ true
gap_blank b h = grind (arith, nat_tests)

abbrev gap_after : Spot → ℕ → List ℕ → Spot
gap_after s b more = record { at = s.at + 1; lead = leads_after s.lead (b ∷ []); rest = more }

pub gap_separates : (at : ℕ) (lead : Bool) (b : ℕ) (more : List ℕ) → IsGap b
    → SeparatorAt (record { at = at; lead = lead; rest = b ∷ more }) (record { at = at + 1; lead = leads_after lead (b ∷ []); rest = more })
gap_separates at lead b more g = record { bytes = b ∷ []; is = blank_told lead b more (gap_blank b g); behind = record { at = refl; lead = refl; rest = refl } }

record Cut (at : ℕ) (lead : Bool) (xs : List Written) : Type 0 where
  after : Spot
  cut : Cuts (record { at = at; lead = lead; rest = print xs }) (placed at xs) after
  all : after.rest ≡ []

cut_print : (at : ℕ) (lead : Bool) (xs : List Written) → AreTokens xs → Cut at lead xs
cut_print at lead [] h = record { after = record { at = at; lead = lead; rest = [] }; cut = stop (record { at = at; lead = lead; rest = [] }); all = refl }
cut_print at lead (x ∷ xs) h =
    let s : Spot = record { at = at; lead = lead; rest = print (x ∷ xs) } in
    let lead1 = leads_after lead x.bytes in
    let lead2 = leads_after lead1 (x.gap ∷ []) in
    let mid : Spot = record { at = at + length x.bytes; lead = leads_after lead x.bytes; rest = x.gap ∷ print xs } in
    let next : Spot = record { at = at + length x.bytes + 1; lead = leads_after (leads_after lead x.bytes) (x.gap ∷ []); rest = print xs } in
    let t : Token = record { kind = x.kind; span = record { start = at; end = at + length x.bytes }; text = x.bytes } in
    let rest = cut_print (at + length x.bytes + 1) (leads_after (leads_after lead x.bytes) (x.gap ∷ [])) xs h.2 in
    record {
      after = rest.after;
      cut = token s mid rest.after t (placed (at + length x.bytes + 1) xs)
          (token_before_gap x.kind x.bytes x.gap (print xs) s t h.0 h.1 refl (record { kind_is = refl; text_is = refl; start_is = refl; end_is = refl }))
          (separator mid next rest.after (placed (at + length x.bytes + 1) xs) (gap_separates (at + length x.bytes) (leads_after lead x.bytes) x.gap (print xs) h.1) rest.cut);
      all = rest.all;
    }

pub printed_lexes : (xs : List Written) → AreTokens xs → Lexes (print xs) (placed 0 xs)
printed_lexes xs h = let c = cut_print 0 true xs h in record { after = c.after; cut = c.cut; all = c.all }
