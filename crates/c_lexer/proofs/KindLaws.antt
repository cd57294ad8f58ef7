-- The kind of token that a spelling is.
use Rattle.std.proofs.Common.{◌≡◌, ℕ, Bool, true, false, not, ◌&&◌, ◌||◌, List, [], ◌∷◌, ◌++◌, Option, Some, None, refl, sym, ◌∙◌, ap, subst, arith, if◌then◌else◌}
use Rattle.std.specs.Prelude.{◌==◌}
use Rattle.std.proofs.lemmas.Bool.{eqb-true, and_parts, and_from}
use Rattle.std.proofs.lemmas.Bool.Decides.{nat_tests}
use Rattle.c_lexer.specs.Bytes.{Each, is_between, is_digit, is_octal, is_hex, is_letter, is_name_byte}
use Rattle.c_lexer.specs.Name.{IsName, words, is_word}
use Rattle.c_lexer.specs.Number.{NumberTail, IsNumber, is_number_byte, suffixes, is_suffix, value_from, IsConstant, decimal, octal, hexadecimal}
use Rattle.c_lexer.specs.Number as number
use Rattle.c_lexer.specs.Mark.{marks, is_mark}
use Rattle.c_lexer.specs.Token.{IsSpelling, name, number, char, text, mark, IsToken}
use Rattle.c_lexer.specs.declared.spelling.First.TheVariants.{Letter, Digit}
use Rattle.tok_base.specs.declared.token.Kind.{Kind}
use Rattle.tok_base.specs.declared.token.Kind.TheVariants.{Name, Word, Number, Char, Text, Mark}
use Rattle.c_lexer.specs.Scan.{class_of, in_base, fits, hex_fits, zero_fits, is_constant, kind_at, kind_of}
use Rattle.c_lexer.proofs.Fronts.{by_test, Each-append}
use Rattle.c_lexer.proofs.Tables.{table_law, each_byte}
use Rattle.c_lexer.proofs.Numbers.{Each_map, Fits, fits_from, fits_to}

-- ---- constants

abbrev no_x : List ℕ → Bool
no_x [] = true
no_x (b ∷ bs) = not (b == 120 || b == 88)

suffix_no_x : (s : List ℕ) → is_suffix s ≡ true → no_x s ≡ true
unfolding suffixes
suffix_no_x s h = table_law no_x suffixes s refl h

not_true : (x : Bool) → not x ≡ true → x ≡ false
not_true true h = cc
not_true false h = refl

octal_no_x : (b : ℕ) → is_octal b ≡ true → (b == 120 || b == 88) ≡ false
octal_no_x b h = grind (arith, nat_tests)

first_no_x : (ds s : List ℕ) → Each is_octal ds → is_suffix s ≡ true → no_x (ds ++ s) ≡ true
first_no_x [] s h k = suffix_no_x s k
first_no_x (d ∷ ds) s h k = rw (octal_no_x d h.0) refl

zero_octal : (t : List ℕ) → no_x t ≡ true → fits 8 (48 ∷ t) ≡ true → zero_fits t ≡ true
zero_octal [] n h = refl
zero_octal (x ∷ t) n h = rw (not_true (x == 120 || x == 88) n) h

decimal_first : (d : ℕ) → is_between 49 57 d ≡ true → ((d == 48) ≡ false) × (is_digit d ≡ true)
decimal_first d h = (grind (arith, nat_tests), grind (arith, nat_tests))

constant_found : (w : List ℕ) → IsConstant w → is_constant w ≡ true
constant_found w (decimal d ds s e k h f v) =
    let first = decimal_first d k in
    let at : is_constant ((d ∷ ds) ++ s) ≡ true = rw (first.0) (and_from (is_digit d) (fits 10 ((d ∷ ds) ++ s)) first.1 (fits_from 10 (d ∷ ds) s (first.1, h) f v)) in
    ap is_constant e ∙ at
constant_found w (octal ds s e h f v) = ap is_constant e ∙ zero_octal (ds ++ s) (first_no_x ds s h f) (fits_from 8 (48 ∷ ds) s (refl, h) f v)
constant_found w (hexadecimal x d ds s e k h f v) =
    let at : zero_fits (x ∷ ((d ∷ ds) ++ s)) ≡ true = rw k (and_from (is_hex d) (fits 16 ((d ∷ ds) ++ s)) h.0 (fits_from 16 (d ∷ ds) s h f v)) in
    ap is_constant e ∙ at

no_suffix : is_suffix [] ≡ true
unfolding suffixes
no_suffix = refl

from_octal : (t : List ℕ) → Fits 8 (48 ∷ t) → IsConstant (48 ∷ t)
from_octal t h =
    let f = h.first 48 t refl refl in
    let P : List ℕ → Type 0 = λ x. Each (in_base 8) x in
    let each = subst P f.1 h.digits in
    octal f.0 h.s (h.is ∙ ap (λ x. x ++ h.s) f.1) each.1 h.suffix (let e = ap (value_from 8 0) f.1 in let v = h.small in omega (arith, e, v))

from_hex : (x d : ℕ) (t : List ℕ) → (x == 120 || x == 88) ≡ true → is_hex d ≡ true → Fits 16 (d ∷ t) → IsConstant (48 ∷ x ∷ d ∷ t)
from_hex x d t k k2 h =
    let f = h.first d t refl k2 in
    let P : List ℕ → Type 0 = λ x. Each (in_base 16) x in
    let each = subst P f.1 h.digits in
    hexadecimal x d f.0 h.s (ap (λ y. 48 ∷ x ∷ y) (h.is ∙ ap (λ y. y ++ h.s) f.1)) k each h.suffix (let e = ap (value_from 16 0) f.1 in let v = h.small in omega (arith, e, v))

from_decimal : (d : ℕ) (t : List ℕ) → (d == 48) ≡ false → is_digit d ≡ true → Fits 10 (d ∷ t) → IsConstant (d ∷ t)
from_decimal d t k k2 h =
    let f = h.first d t refl k2 in
    let P : List ℕ → Type 0 = λ x. Each (in_base 10) x in
    let each = subst P f.1 h.digits in
    decimal d f.0 h.s (h.is ∙ ap (λ x. x ++ h.s) f.1) (nonzero d k k2) each.1 h.suffix (let e = ap (value_from 10 0) f.1 in let v = h.small in omega (arith, e, v))
  where
    nonzero : (d : ℕ) → (d == 48) ≡ false → is_digit d ≡ true → is_between 49 57 d ≡ true
    nonzero d k k2 = grind (arith, nat_tests)

zero_sound : (t : List ℕ) → zero_fits t ≡ true → IsConstant (48 ∷ t)
zero_sound [] h = octal [] [] refl tt no_suffix (omega arith)
zero_sound (x ∷ t) h = by_test (λ y. y ≡ true → IsConstant (48 ∷ x ∷ t)) (x == 120 || x == 88) (hex_fits t) (fits 8 (48 ∷ x ∷ t))
    (λ k e. go x t k e) (λ k e. from_octal (x ∷ t) (fits_to 8 (48 ∷ x ∷ t) e)) h
  where
    go : (x : ℕ) (t : List ℕ) → (x == 120 || x == 88) ≡ true → hex_fits t ≡ true → IsConstant (48 ∷ x ∷ t)
    go x [] k e = absurd (cc)
    go x (d ∷ t) k e = let p = and_parts (is_hex d) (fits 16 (d ∷ t)) e in from_hex x d t k p.0 (fits_to 16 (d ∷ t) p.1)

constant_sound : (w : List ℕ) → is_constant w ≡ true → IsConstant w
constant_sound [] h = absurd (cc)
constant_sound (d ∷ t) h = by_test (λ y. y ≡ true → IsConstant (d ∷ t)) (d == 48) (zero_fits t) (is_digit d && fits 10 (d ∷ t))
    (λ k e. let P : ℕ → Type 0 = λ x. IsConstant (x ∷ t) in subst P (sym (eqb-true d 48 k)) (zero_sound t e))
    (λ k e. let p = and_parts (is_digit d) (fits 10 (d ∷ t)) e in from_decimal d t k p.0 (fits_to 10 (d ∷ t) p.1)) h

-- ---- a token is a spelling

tail_of : (t : List ℕ) → Each is_number_byte t → NumberTail t
tail_of [] h = number.none
tail_of (b ∷ t) h = number.more b t h.0 (tail_of t h.1)

pub each_of : (p : ℕ → Bool) (t : List ℕ) → each_byte p t ≡ true → Each p t
each_of p [] h = tt
each_of p (b ∷ t) h = let q = and_parts (p b) (each_byte p t) h in (q.0, each_of p t q.1)

suffix_bytes : (s : List ℕ) → is_suffix s ≡ true → Each is_number_byte s
unfolding suffixes
suffix_bytes s h = each_of is_number_byte s (table_law (each_byte is_number_byte) suffixes s refl h)

hex_byte : (b : ℕ) → is_hex b ≡ true → is_number_byte b ≡ true
hex_byte b h = grind (arith, nat_tests)

octal_byte : (b : ℕ) → is_octal b ≡ true → is_number_byte b ≡ true
octal_byte b h = grind (arith, nat_tests)

digit_byte : (b : ℕ) → is_digit b ≡ true → is_number_byte b ≡ true
digit_byte b h = grind (arith, nat_tests)

x_byte : (b : ℕ) → (b == 120 || b == 88) ≡ true → is_number_byte b ≡ true
x_byte b h = grind (arith, nat_tests)

constant_number : (w : List ℕ) → IsConstant w → IsNumber w
constant_number w (decimal d ds s e k h f v) =
    subst IsNumber (sym e) (number.digit d (ds ++ s) (decimal_first d k).1 (tail_of (ds ++ s) (Each-append is_number_byte ds s (Each_map is_digit is_number_byte ds digit_byte h) (suffix_bytes s f))))
constant_number w (octal ds s e h f v) =
    subst IsNumber (sym e) (number.digit 48 (ds ++ s) refl (tail_of (ds ++ s) (Each-append is_number_byte ds s (Each_map is_octal is_number_byte ds octal_byte h) (suffix_bytes s f))))
constant_number w (hexadecimal x d ds s e k h f v) =
    subst IsNumber (sym e) (number.digit 48 (x ∷ ((d ∷ ds) ++ s)) refl (tail_of (x ∷ ((d ∷ ds) ++ s))
    (x_byte x k, Each-append is_number_byte (d ∷ ds) s (Each_map is_hex is_number_byte (d ∷ ds) hex_byte h) (suffix_bytes s f))))

abbrev name_test : List ℕ → Bool
name_test [] = false
name_test (b ∷ t) = is_letter b && each_byte is_name_byte t

name_of : (w : List ℕ) → name_test w ≡ true → IsName w
name_of [] h = absurd (cc)
name_of (b ∷ t) h = let q = and_parts (is_letter b) (each_byte is_name_byte t) h in (q.0, each_of is_name_byte t q.1)

word_name : (w : List ℕ) → is_word w ≡ true → IsName w
unfolding words
word_name w h = name_of w (table_law name_test words w refl h)

pub token_spelling : (k : Kind) (w : List ℕ) → IsToken k w → IsSpelling w
token_spelling Name w h = name h.0
token_spelling Word w h = name (word_name w h)
token_spelling Number w h = number (constant_number w h)
token_spelling Char w h = char h
token_spelling Text w h = text h
token_spelling Mark w h = mark h

-- ---- the kind

letter_kind : (w : List ℕ) (x : Bool) → IsName w → is_word w ≡ x → kind_of w ≡ Some (if x then Word else Name)
letter_kind [] x h e = absurd h
letter_kind (b ∷ t) x h e = let c : class_of b ≡ Letter = rw (h.0) refl in ap (λ y. kind_at y (b ∷ t)) c ∙ ap (λ y. Some (if y then Word else Name)) e

digit_no_letter : (b : ℕ) → is_digit b ≡ true → is_letter b ≡ false
digit_no_letter b h = grind (arith, nat_tests)

digit_class : (b : ℕ) → is_digit b ≡ true → class_of b ≡ Digit
digit_class b h = rw (digit_no_letter b h) (rw h refl)

number_kind : (w : List ℕ) → IsConstant w → kind_of w ≡ Some Number
number_kind [] h = absurd (let x : is_constant [] ≡ true = constant_found [] h in cc)
number_kind (b ∷ t) h =
    let c : class_of b ≡ Digit = digit_class b (first (b ∷ t) b t refl h) in
    ap (λ y. kind_at y (b ∷ t)) c ∙ rw (constant_found (b ∷ t) h) refl
  where
    first : (w : List ℕ) (b : ℕ) (t : List ℕ) → w ≡ b ∷ t → IsConstant w → is_digit b ≡ true
    first w b t s (decimal d ds u e k h f v) = let head : d ≡ b = cc in subst (λ x. is_digit x ≡ true) head (decimal_first d k).1
    first w b t s (octal ds u e h f v) = let head : 48 ≡ b = cc in subst (λ x. is_digit x ≡ true) head refl
    first w b t s (hexadecimal x d ds u e k h f v) = let head : 48 ≡ b = cc in subst (λ y. is_digit y ≡ true) head refl

abbrev mark_kind : List ℕ → Bool
mark_kind w = elim (kind_of w) [ None ↦ false | Some k ↦ elim k [ Mark ↦ true | _ ↦ false ] ]

marks_kind : (w : List ℕ) → is_mark w ≡ true → mark_kind w ≡ true
unfolding marks
marks_kind w h = table_law mark_kind marks w refl h

is_mark_kind : (o : Option Kind) → (elim o [ None ↦ false | Some k ↦ elim k [ Mark ↦ true | _ ↦ false ] ]) ≡ true → o ≡ Some Mark
is_mark_kind None h = absurd (cc)
is_mark_kind (Some Name) h = absurd (cc)
is_mark_kind (Some Word) h = absurd (cc)
is_mark_kind (Some Number) h = absurd (cc)
is_mark_kind (Some Char) h = absurd (cc)
is_mark_kind (Some Text) h = absurd (cc)
is_mark_kind (Some Mark) h = refl

-- a token has the kind that is computed, so it has one kind
pub kind_found : (k : Kind) (w : List ℕ) → IsToken k w → kind_of w ≡ Some k
kind_found Name w h = letter_kind w false h.0 h.1
kind_found Word w h = letter_kind w true (word_name w h) h
kind_found Number w h = number_kind w h
kind_found Char w h = ap kind_of h.spelled
kind_found Text w h = ap kind_of h.spelled
kind_found Mark w h = is_mark_kind (kind_of w) (marks_kind w h)

name_sound : (w : List ℕ) (x : Bool) (k : Kind) → IsName w → is_word w ≡ x → Some (if x then Word else Name) ≡ Some k → IsToken k w
name_sound w true k h e f = let same : Word ≡ k = cc in subst (λ y. IsToken y w) same e
name_sound w false k h e f = let same : Name ≡ k = cc in subst (λ y. IsToken y w) same (h, e)

constant_kind : (w : List ℕ) (x : Bool) (k : Kind) → is_constant w ≡ x → (if x then Some Number else None) ≡ Some k → IsToken k w
constant_kind w true k e f = let same : Number ≡ k = cc in subst (λ y. IsToken y w) same (constant_sound w e)
constant_kind w false k e f = absurd (cc)

number_sound : (w : List ℕ) (k : Kind) → IsNumber w → kind_of w ≡ Some k → IsToken k w
number_sound _ k (number.digit d t h n) e =
    let at : kind_of (d ∷ t) ≡ (if is_constant (d ∷ t) then Some Number else None) = ap (λ y. kind_at y (d ∷ t)) (digit_class d h) in
    constant_kind (d ∷ t) (is_constant (d ∷ t)) k refl (sym at ∙ e)
number_sound _ k (number.point d t h n) e =
    let at : kind_of (46 ∷ d ∷ t) ≡ None = rw h refl in absurd (let x : None ≡ Some k = sym at ∙ e in cc)

-- a spelling that has a kind is a token of it
pub kind_sound : (k : Kind) (w : List ℕ) → IsSpelling w → kind_of w ≡ Some k → IsToken k w
kind_sound k w (name h) e = name_sound w (is_word w) k h refl (sym (letter_kind w (is_word w) h refl) ∙ e)
kind_sound k w (number h) e = number_sound w k h e
kind_sound k w (char h) e = let x : Some Char ≡ Some k = sym (ap kind_of h.spelled) ∙ e in let same : Char ≡ k = cc in subst (λ y. IsToken y w) same h
kind_sound k w (text h) e = let x : Some Text ≡ Some k = sym (ap kind_of h.spelled) ∙ e in let same : Text ≡ k = cc in subst (λ y. IsToken y w) same h
kind_sound k w (mark h) e = let x : Some Mark ≡ Some k = sym (is_mark_kind (kind_of w) (marks_kind w h)) ∙ e in let same : Mark ≡ k = cc in subst (λ y. IsToken y w) same h
