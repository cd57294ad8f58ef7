-- Lines of tokens are read as these tokens.
use Rattle.std.proofs.Common.{◌≡◌, ℕ, ◌+◌, Bool, true, List, [], ◌∷◌, ◌++◌, length, map, flat_map, All, refl, sym, ◌∙◌, ap, subst, append_assoc}
use Rattle.std.proofs.lemmas.List.Elements.{All-head, All-tail}
use Rattle.c_lexer.specs.Separator.{leads_after}
use Rattle.c_lexer.specs.Cut.{Spot, Cuts, stop, separator, token}
use Rattle.c_lexer.specs.Printed.{IsGap}
use Rattle.c_lexer.specs.Lexeme.{lexeme_of, IsLexeme, LexesTo}
use Rattle.c_lexer.specs.Lines.{line_text, text_of_lines}
use Rattle.tok_base.specs.declared.token.Token.{Token}
use Rattle.tok_base.specs.declared.token.Lexeme.{Lexeme}
use Rattle.c_lexer.proofs.Printing.{token_before_gap, gap_separates}

-- the bytes, at whatever place, are cut into these tokens and nothing is left
record CutInto (bytes : List ℕ) (ls : List Lexeme) (at : ℕ) (lead : Bool) : Type 0 where
  tokens : List Token
  after : Spot
  cut : Cuts (record { at = at; lead = lead; rest = bytes }) tokens after
  all : after.rest ≡ []
  are : map lexeme_of tokens ≡ ls

abbrev Anywhere : List ℕ → List Lexeme → Type 0
Anywhere bytes ls = (at : ℕ) (lead : Bool) → CutInto bytes ls at lead

nothing_left : Anywhere [] []
nothing_left at lead = record { tokens = []; after = record { at = at; lead = lead; rest = [] }; cut = stop (record { at = at; lead = lead; rest = [] }); all = refl; are = refl }

gap_first : (b : ℕ) (more : List ℕ) (ls : List Lexeme) → IsGap b → Anywhere more ls → Anywhere (b ∷ more) ls
gap_first b more ls g h at lead =
    let c = h (at + 1) (leads_after lead (b ∷ [])) in
    record {
      tokens = c.tokens;
      after = c.after;
      cut = separator (record { at = at; lead = lead; rest = b ∷ more }) (record { at = at + 1; lead = leads_after lead (b ∷ []); rest = more }) c.after c.tokens (gap_separates at lead b more g) c.cut;
      all = c.all;
      are = c.are;
    }

token_first : (l : Lexeme) (b : ℕ) (more : List ℕ) (ls : List Lexeme) → IsLexeme l → IsGap b → Anywhere (b ∷ more) ls → Anywhere (l.text ++ b ∷ more) (l ∷ ls)
token_first l b more ls t g h at lead =
    let s : Spot = record { at = at; lead = lead; rest = l.text ++ b ∷ more } in
    let n : Spot = record { at = at + length l.text; lead = leads_after lead l.text; rest = b ∷ more } in
    let u : Token = record { kind = l.kind; span = record { start = at; end = at + length l.text }; text = l.text } in
    let c = h (at + length l.text) (leads_after lead l.text) in
    record {
      tokens = u ∷ c.tokens;
      after = c.after;
      cut = token s n c.after u c.tokens (token_before_gap l.kind l.text b more s u t g refl (record { kind_is = refl; text_is = refl; start_is = refl; end_is = refl })) c.cut;
      all = c.all;
      are = ap (λ x. l ∷ x) c.are;
    }

abbrev spaced : List Lexeme → List ℕ
spaced line = flat_map (λ y. (32 ∷ []) ++ y.text) line

line_first : (l : Lexeme) (line : List Lexeme) (more : List ℕ) (ls : List Lexeme) → IsLexeme l → All IsLexeme line → Anywhere more ls
    → Anywhere (l.text ++ (spaced line ++ 10 ∷ more)) (l ∷ (line ++ ls))
line_first l [] more ls t h k = token_first l 10 more ls t refl (gap_first 10 more ls refl k)
line_first l (y ∷ line) more ls t h k =
    let rest = line_first y line more ls (All-head IsLexeme y line h) (All-tail IsLexeme y line h) k in
    let here = token_first l 32 (y.text ++ (spaced line ++ 10 ∷ more)) (y ∷ (line ++ ls)) t refl (gap_first 32 (y.text ++ (spaced line ++ 10 ∷ more)) (y ∷ (line ++ ls)) refl rest) in
    let P : List ℕ → Type 0 = λ x. Anywhere (l.text ++ 32 ∷ x) (l ∷ y ∷ (line ++ ls)) in
    subst P (sym (append_assoc y.text (spaced line) (10 ∷ more))) here

line_then : (line : List Lexeme) (more : List ℕ) (ls : List Lexeme) → All IsLexeme line → Anywhere more ls → Anywhere (line_text line ++ more) (line ++ ls)
line_then [] more ls h k = gap_first 10 more ls refl k
line_then (l ∷ line) more ls h k =
    let here = line_first l line more ls (All-head IsLexeme l line h) (All-tail IsLexeme l line h) k in
    let P : List ℕ → Type 0 = λ x. Anywhere x (l ∷ (line ++ ls)) in
    let inner : l.text ++ (spaced line ++ 10 ∷ more) ≡ (l.text ++ spaced line) ++ 10 ∷ more = sym (append_assoc l.text (spaced line) (10 ∷ more)) in
    let outer : (l.text ++ spaced line) ++ 10 ∷ more ≡ ((l.text ++ spaced line) ++ 10 ∷ []) ++ more = sym (append_assoc (l.text ++ spaced line) (10 ∷ []) more) in
    subst P (inner ∙ outer) here

-- things of which each is spelled as a line
spelled_anywhere : {X : Type 0} (spell : X → List Lexeme) (xs : List X) → All (λ x. All IsLexeme (spell x)) xs → Anywhere (flat_map (λ x. line_text (spell x)) xs) (flat_map spell xs)
spelled_anywhere spell [] h = nothing_left
spelled_anywhere spell (x ∷ xs) h =
    line_then (spell x) (flat_map (λ y. line_text (spell y)) xs) (flat_map spell xs)
    (All-head (λ y. All IsLexeme (spell y)) x xs h) (spelled_anywhere spell xs (All-tail (λ y. All IsLexeme (spell y)) x xs h))

pub spelled_lines_lex : {X : Type 0} (spell : X → List Lexeme) (xs : List X) → All (λ x. All IsLexeme (spell x)) xs
    → LexesTo (flat_map (λ x. line_text (spell x)) xs) (flat_map spell xs)
spelled_lines_lex spell xs h =
    let c = spelled_anywhere spell xs h 0 true in
    record { tokens = c.tokens; lexes = record { after = c.after; cut = c.cut; all = c.all }; are = c.are }

pub lines_lex : (lines : List (List Lexeme)) → All (All IsLexeme) lines → LexesTo (text_of_lines lines) (flat_map (λ line. line) lines)
lines_lex lines h = spelled_lines_lex (λ line. line) lines h
