-- Tokens, and kinds with texts: one each way.
use Rattle.std.proofs.Common.{◌≡◌, ℕ, Bool, true, false, ◌||◌, List, [], ◌∷◌, map, Some, IsSome, refl, sym, ◌∙◌, ap, subst}
use Rattle.std.specs.Prelude.{bytes_eq, if◌then◌else◌}
use Rattle.std.specs.List.{AllByRecursion}
use Rattle.std.proofs.lemmas.Slice.Eq.{bytes_eq-Decides}
use Rattle.c_lexer.specs.Name as lexis
use Rattle.c_lexer.specs.Mark as lexis_mark
use Rattle.c_lexer.specs.Lexeme.{IsLexeme}
use Rattle.tok_base.specs.declared.token.Lexeme.{Lexeme}
use Rattle.tok_base.specs.declared.token.Kind.{Kind}
use Rattle.tok_base.specs.declared.token.Kind.TheVariants.{Name, Word, Number, Char, Text, Mark}
use Rattle.c_tree.specs.Tok as t
use Rattle.c_tree.specs.Tok.{Tok, name, word, other, number, char, text, mark}
use Rattle.c_tree.specs.Lexeme.{word_text, other_text, mark_text, lexeme, words, marks, spelled_so, token_of, classify}

word_told : (w : t.Word) → spelled_so (word_text w) words ≡ Some (word w)
unfolding words
word_told t.KTypedef = refl
word_told t.KExtern = refl
word_told t.KStatic = refl
word_told t.KAuto = refl
word_told t.KRegister = refl
word_told t.KInline = refl
word_told t.KConst = refl
word_told t.KVolatile = refl
word_told t.KRestrict = refl
word_told t.KVoid = refl
word_told t.KBool = refl
word_told t.KChar = refl
word_told t.KShort = refl
word_told t.KInt = refl
word_told t.KLong = refl
word_told t.KSigned = refl
word_told t.KUnsigned = refl
word_told t.KStruct = refl
word_told t.KUnion = refl
word_told t.KEnum = refl
word_told t.KSizeof = refl
word_told t.KIf = refl
word_told t.KElse = refl
word_told t.KWhile = refl
word_told t.KDo = refl
word_told t.KFor = refl
word_told t.KBreak = refl
word_told t.KContinue = refl
word_told t.KReturn = refl
word_told t.KSwitch = refl
word_told t.KCase = refl
word_told t.KDefault = refl
word_told t.KAttribute = refl
word_told t.KBuiltin = refl

other_told : (w : t.Other) → spelled_so (other_text w) words ≡ Some (other w)
unfolding words
other_told t.KDouble = refl
other_told t.KFloat = refl
other_told t.KGoto = refl
other_told t.KAlignas = refl
other_told t.KAlignof = refl
other_told t.KAtomic = refl
other_told t.KComplex = refl
other_told t.KGeneric = refl
other_told t.KImaginary = refl
other_told t.KNoreturn = refl
other_told t.KStaticAssert = refl
other_told t.KThreadLocal = refl

mark_told : (p : t.Punct) → spelled_so (mark_text p) marks ≡ Some (mark p)
unfolding marks
mark_told t.LBracket = refl
mark_told t.RBracket = refl
mark_told t.LParen = refl
mark_told t.RParen = refl
mark_told t.LBrace = refl
mark_told t.RBrace = refl
mark_told t.Point = refl
mark_told t.Arrow = refl
mark_told t.Inc = refl
mark_told t.Dec = refl
mark_told t.Amp = refl
mark_told t.Star = refl
mark_told t.Plus = refl
mark_told t.Minus = refl
mark_told t.Tilde = refl
mark_told t.Bang = refl
mark_told t.Slash = refl
mark_told t.Percent = refl
mark_told t.Shl = refl
mark_told t.Shr = refl
mark_told t.Lt = refl
mark_told t.Gt = refl
mark_told t.Le = refl
mark_told t.Ge = refl
mark_told t.EqEq = refl
mark_told t.NotEq = refl
mark_told t.Caret = refl
mark_told t.Bar = refl
mark_told t.AndAnd = refl
mark_told t.OrOr = refl
mark_told t.Quest = refl
mark_told t.Colon = refl
mark_told t.Semi = refl
mark_told t.Dots = refl
mark_told t.Assign = refl
mark_told t.MulA = refl
mark_told t.DivA = refl
mark_told t.RemA = refl
mark_told t.AddA = refl
mark_told t.SubA = refl
mark_told t.ShlA = refl
mark_told t.ShrA = refl
mark_told t.AndA = refl
mark_told t.XorA = refl
mark_told t.OrA = refl
mark_told t.Com = refl

pub told : (t : Tok) → classify (lexeme t) ≡ Some t
told (name n) = refl
told (word w) = word_told w
told (other w) = other_told w
told (number n) = refl
told (char n) = refl
told (text n) = refl
told (mark p) = mark_told p

-- lexeme tells tokens apart
pub apart : (s t : Tok) → lexeme s ≡ lexeme t → s ≡ t
apart s t e = some_same s t (sym (told s) ∙ ap classify e ∙ told t)
  where
    some_same : (s t : Tok) → Some s ≡ Some t → s ≡ t
    some_same s t e = cc

-- ---- from a text back to its token

abbrev IsKind : Kind → Tok → Type 0
IsKind k t = (lexeme t).kind ≡ k

same_parts : (t : Tok) (k : Kind) (s : List ℕ) → (lexeme t).kind ≡ k → (lexeme t).text ≡ s → lexeme t ≡ record { kind = k; text = s }
same_parts t k s e f = subst (λ w. lexeme t ≡ record { kind = k; text = w }) f (subst (λ x. lexeme t ≡ record { kind = x; text = (lexeme t).text }) e refl)

found_at : (k : Kind) (s : List ℕ) (x t : Tok) (ts : List Tok) (b : Bool) → bytes_eq (lexeme x).text s ≡ b → IsKind k x
    → (spelled_so s ts ≡ Some t → lexeme t ≡ record { kind = k; text = s })
    → (if b then Some x else spelled_so s ts) ≡ Some t → lexeme t ≡ record { kind = k; text = s }
found_at k s x t ts true e h more g =
    let is_x : x ≡ t = cc in
    subst (λ y. lexeme y ≡ record { kind = k; text = s }) is_x (same_parts x k s h ((bytes_eq-Decides (lexeme x).text s).0 e))
found_at k s x t ts false e h more g = more g

found : (k : Kind) (s : List ℕ) (ts : List Tok) (t : Tok) → AllByRecursion (IsKind k) ts → spelled_so s ts ≡ Some t → lexeme t ≡ record { kind = k; text = s }
found k s [] t h e = absurd (cc)
found k s (x ∷ xs) t h e = found_at k s x t xs (bytes_eq (lexeme x).text s) refl h.0 (found k s xs t h.1) e

words_are : AllByRecursion (IsKind Word) words
unfolding words
words_are = (refl, (refl, (refl, (refl, (refl, (refl, (refl, (refl, (refl, (refl, (refl, (refl, (refl, (refl, (refl, (refl, (refl, (refl, (refl, (refl, (refl, (refl, (refl, (refl, (refl, (refl, (refl, (refl, (refl, (refl, (refl, (refl, (refl, (refl, (refl, (refl, (refl, (refl, (refl, (refl, (refl, (refl, (refl, (refl, (refl, (refl, tt))))))))))))))))))))))))))))))))))))))))))))))

marks_are : AllByRecursion (IsKind Mark) marks
unfolding marks
marks_are = (refl, (refl, (refl, (refl, (refl, (refl, (refl, (refl, (refl, (refl, (refl, (refl, (refl, (refl, (refl, (refl, (refl, (refl, (refl, (refl, (refl, (refl, (refl, (refl, (refl, (refl, (refl, (refl, (refl, (refl, (refl, (refl, (refl, (refl, (refl, (refl, (refl, (refl, (refl, (refl, (refl, (refl, (refl, (refl, (refl, (refl, tt))))))))))))))))))))))))))))))))))))))))))))))

kept_at : (k : Kind) (s : List ℕ) (t : Tok) → token_of k s ≡ Some t → lexeme t ≡ record { kind = k; text = s }
kept_at Name s t e = let same : name s ≡ t = cc in subst (λ x. lexeme x ≡ record { kind = Name; text = s }) same refl
kept_at Word s t e = found Word s words t words_are e
kept_at Number s t e = let same : number s ≡ t = cc in subst (λ x. lexeme x ≡ record { kind = Number; text = s }) same refl
kept_at Char s t e = let same : char s ≡ t = cc in subst (λ x. lexeme x ≡ record { kind = Char; text = s }) same refl
kept_at Text s t e = let same : text s ≡ t = cc in subst (λ x. lexeme x ≡ record { kind = Text; text = s }) same refl
kept_at Mark s t e = found Mark s marks t marks_are e

pub kept : (l : Lexeme) (t : Tok) → classify l ≡ Some t → lexeme t ≡ l
kept l t e = kept_at l.kind l.text t e

-- ---- the tokens of the lexis

abbrev texts : List Tok → List (List ℕ)
texts ts = map (λ t. (lexeme t).text) ts

any_at : (s : List ℕ) (x : Tok) (ts : List Tok) (b : Bool) → (lexis.is_one_of (texts ts) s ≡ true → IsSome (spelled_so s ts))
    → (b || lexis.is_one_of (texts ts) s) ≡ true → IsSome (if b then Some x else spelled_so s ts)
any_at s x ts true more h = refl
any_at s x ts false more h = more h

any : (s : List ℕ) (ts : List Tok) → lexis.is_one_of (texts ts) s ≡ true → IsSome (spelled_so s ts)
any s [] h = absurd (cc)
any s (x ∷ xs) h = any_at s x xs (bytes_eq (lexeme x).text s) (any s xs) h

same_words : texts words ≡ lexis.words
unfolding words lexis.words
same_words = refl

same_marks : texts marks ≡ lexis_mark.marks
unfolding marks lexis_mark.marks
same_marks = refl

pub all_told : (l : Lexeme) → IsLexeme l → IsSome (classify l)
all_told l h = by_kind l.kind l.text h
  where
    by_kind : (k : Kind) (s : List ℕ) → IsLexeme (record { kind = k; text = s }) → IsSome (token_of k s)
    by_kind Name s h = refl
    by_kind Word s h = any s words (subst (λ ws. lexis.is_one_of ws s ≡ true) (sym same_words) h)
    by_kind Number s h = refl
    by_kind Char s h = refl
    by_kind Text s h = refl
    by_kind Mark s h = any s marks (subst (λ ms. lexis.is_one_of ms s ≡ true) (sym same_marks) h)
