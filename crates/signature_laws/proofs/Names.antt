-- What is read of the names of types.
use Rattle.std.proofs.Common.{◌≡◌, ℕ, List, [], ◌∷◌, ◌++◌, length, take, drop, Bool, true, false, not, ◌&&◌, ◌||◌, ◌==◌, codes, bytes_eq, refl, sym, ◌∙◌, ap, subst, inl, inr, append_assoc, take-append-drop}
use Rattle.std.proofs.lemmas.Bool.{or_left, or_right, or_from, not_from_false, false_from_ne_true, true≢false, eqb-true, and_from}
use Rattle.std.proofs.lemmas.Slice.Eq.{bytes_eq-Decides}
use Rattle.num_ops.specs.declared.kinds.IntKind.{IntKind}
use Rattle.num_ops.specs.declared.kinds.IntKind.TheVariants as k
use Rattle.c_lexer.specs.Bytes.{is_letter, is_digit, is_name_byte, Each}
use Rattle.c_lexer.specs.Name.{words, is_word}
use Rattle.c_core.specs.Signatures.{integer_names, kind_in, has_star, starts, opens_parameters}
use Rattle.c_types.specs.Spelling.{int_name}
use Rattle.signature_laws.specs.Named.{IsIdentifier, IsSpelledName}
use Rattle.signature_laws.proofs.Texts.{all, is_plain, Passed, passed_append, passed_plain, star_append, star_plain, IsWhole, listed_whole, whole_plain, whole_enclosed, clear, is_no_hash, clear_append, not_unnamed, has, apart, each_passes, kind_apart}

-- a text that may follow the function's own bracket, or a comma and its blank
pub record IsHead (text : List ℕ) : Type 0 where
  pub opens : opens_parameters 40 text ≡ true
  pub no_blank : starts (codes " ") text ≡ false

-- the name of a type
pub record IsBase (name : List ℕ) : Type 0 where
  pub passed : Passed name
  pub whole : IsWhole name
  pub starless : has_star name ≡ false
  pub heads : (text : List ℕ) → clear text ≡ true → IsHead (name ++ text)
  pub no_const : starts (codes "const ") name ≡ false
  pub no_volatile : starts (codes "volatile ") name ≡ false

-- the name of a record or an enumeration
pub record IsOther (name : List ℕ) : Type 0 where
  pub base : IsBase name
  pub kind : kind_in integer_names name ≡ k.Int
  pub not_void : bytes_eq name (codes "void") ≡ false

plain_base : (name : List ℕ) → all is_plain name ≡ true → ((text : List ℕ) → clear text ≡ true → IsHead (name ++ text)) → starts (codes "const ") name ≡ false → starts (codes "volatile ") name ≡ false → IsBase name
plain_base name p h c v = record { passed = passed_plain name p; whole = whole_plain name p; starless = star_plain name p; heads = h; no_const = c; no_volatile = v }

pub void_base : IsBase (codes "void")
void_base = plain_base (codes "void") refl (λ text t. record { opens = refl; no_blank = refl }) refl refl

-- ---- integer types

pub record IsInt (kind : IntKind) (name : List ℕ) : Type 0 where
  pub base : IsBase name
  pub is : kind_in integer_names name ≡ kind
  pub not_void : bytes_eq name (codes "void") ≡ false

pub int_is : (kind : IntKind) → IsInt kind (int_name kind)
int_is k.Bool = record { base = plain_base (codes "_Bool") refl (λ text t. record { opens = refl; no_blank = refl }) refl refl; is = refl; not_void = refl }
int_is k.Char = record { base = plain_base (codes "char") refl (λ text t. record { opens = refl; no_blank = refl }) refl refl; is = refl; not_void = refl }
int_is k.SChar = record { base = plain_base (codes "signed char") refl (λ text t. record { opens = refl; no_blank = refl }) refl refl; is = refl; not_void = refl }
int_is k.UChar = record { base = plain_base (codes "unsigned char") refl (λ text t. record { opens = refl; no_blank = refl }) refl refl; is = refl; not_void = refl }
int_is k.Short = record { base = plain_base (codes "short") refl (λ text t. record { opens = refl; no_blank = refl }) refl refl; is = refl; not_void = refl }
int_is k.UShort = record { base = plain_base (codes "unsigned short") refl (λ text t. record { opens = refl; no_blank = refl }) refl refl; is = refl; not_void = refl }
int_is k.Int = record { base = plain_base (codes "int") refl (λ text t. record { opens = refl; no_blank = refl }) refl refl; is = refl; not_void = refl }
int_is k.UInt = record { base = plain_base (codes "unsigned int") refl (λ text t. record { opens = refl; no_blank = refl }) refl refl; is = refl; not_void = refl }
int_is k.Long = record { base = plain_base (codes "long") refl (λ text t. record { opens = refl; no_blank = refl }) refl refl; is = refl; not_void = refl }
int_is k.ULong = record { base = plain_base (codes "unsigned long") refl (λ text t. record { opens = refl; no_blank = refl }) refl refl; is = refl; not_void = refl }
int_is k.LongLong = record { base = plain_base (codes "long long") refl (λ text t. record { opens = refl; no_blank = refl }) refl refl; is = refl; not_void = refl }
int_is k.ULongLong = record { base = plain_base (codes "unsigned long long") refl (λ text t. record { opens = refl; no_blank = refl }) refl refl; is = refl; not_void = refl }

-- ---- identifiers

-- what no identifier has
unlike : (x c : ℕ) → is_name_byte x ≡ false → is_name_byte c ≡ true → (c == x) ≡ false
unlike x c g h = false_from_ne_true (c == x) (λ e. true≢false (sym h ∙ ap is_name_byte (eqb-true c x e) ∙ g))

not_like : (x c : ℕ) → is_name_byte x ≡ false → is_name_byte c ≡ true → not (c == x) ≡ true
not_like x c g h = not_from_false (c == x) (unlike x c g h)

name_plain : (c : ℕ) → is_name_byte c ≡ true → is_plain c ≡ true
name_plain c h =
    and_from (not (c == 40)) (not (c == 41) && (not (c == 42) && not (c == 44))) (not_like 40 c refl h)
    (and_from (not (c == 41)) (not (c == 42) && not (c == 44)) (not_like 41 c refl h)
    (and_from (not (c == 42)) (not (c == 44)) (not_like 42 c refl h) (not_like 44 c refl h)))

all_of : (p q : ℕ → Bool) → ((c : ℕ) → q c ≡ true → p c ≡ true) → (x : List ℕ) → Each q x → all p x ≡ true
all_of p q f [] h = refl
all_of p q f (c ∷ x) h = and_from (p c) (all p x) (f c h.0) (all_of p q f x h.1)

no_blank : (x : List ℕ) → Each is_name_byte x → has 32 x ≡ false
no_blank [] h = refl
no_blank (c ∷ x) h = or_from (c == 32) (has 32 x) (unlike 32 c refl h.0) (no_blank x h.1)

not_started : (word name : List ℕ) → ((y : List ℕ) → has 32 (word ++ y) ≡ true) → has 32 name ≡ false → starts word name ≡ false
not_started word name g f = false_from_ne_true (starts word name) (λ e.
    let n : ℕ = length word in
    let first : take n name ≡ word = (bytes_eq-Decides (take n name) word).0 e in
    let same : name ≡ word ++ drop n name = sym (take-append-drop n name) ∙ ap (λ (x : List ℕ). x ++ drop n name) first in
    true≢false (sym (g (drop n name)) ∙ ap (has 32) (sym same) ∙ f))

name_heads : (b : ℕ) (x text : List ℕ) → Each is_name_byte (b ∷ x) → clear text ≡ true → IsHead ((b ∷ x) ++ text)
name_heads b x text h t =
    let start : starts (codes "*") ((b ∷ x) ++ text) ≡ false = ap (λ (e : Bool). e && true) (unlike 42 b refl h.0) in
    let hash : starts (codes "unnamed #") ((b ∷ x) ++ text) ≡ false = not_unnamed ((b ∷ x) ++ text) (clear_append (b ∷ x) text (all_of is_no_hash is_name_byte (λ c e. not_like 35 c refl e) (b ∷ x) h) t) in
    record {
      opens = ap (λ (e : Bool). not (e || starts (codes "unnamed #") ((b ∷ x) ++ text))) start ∙ ap (λ (e : Bool). not e) hash;
      no_blank = ap (λ (e : Bool). e && true) (unlike 32 b refl h.0);
    }

name_base : (b : ℕ) (x : List ℕ) → Each is_name_byte (b ∷ x) → IsBase (b ∷ x)
name_base b x h =
    let f = no_blank (b ∷ x) h in
    plain_base (b ∷ x) (all_of is_plain is_name_byte name_plain (b ∷ x) h) (λ text t. name_heads b x text h t)
    (not_started (codes "const ") (b ∷ x) (λ y. refl) f) (not_started (codes "volatile ") (b ∷ x) (λ y. refl) f)

abbrev is_taken : List ℕ → Bool
is_taken text = is_word text || has 32 text

names_taken : each_passes is_taken integer_names ≡ true
unfolding words
names_taken = refl

void_taken : not (is_word (codes "void")) ≡ false
unfolding words
void_taken = refl

identifier_other : (name : List ℕ) → IsIdentifier name → IsOther name
identifier_other [] t = absurd t.0
identifier_other (b ∷ x) t =
    let n = t.0 in
    let h : Each is_name_byte (b ∷ x) = (or_left (is_letter b) (is_digit b) n.0, n.1) in
    record {
      base = name_base b x h;
      kind = kind_apart is_taken integer_names (b ∷ x) names_taken (or_from (is_word (b ∷ x)) (has 32 (b ∷ x)) t.1 (no_blank (b ∷ x) h));
      not_void = apart (λ w. not (is_word w)) (b ∷ x) (codes "void") (not_from_false (is_word (b ∷ x)) t.1) void_taken;
    }

-- ---- the words for a type without a name

digit_plain : (c : ℕ) → is_digit c ≡ true → is_plain c ≡ true
digit_plain c h = name_plain c (or_right (is_letter c) (is_digit c) h)

unnamed_other : (digits : List ℕ) → Each is_digit digits → IsOther (codes "(unnamed #" ++ (digits ++ codes ")"))
unnamed_other digits h =
    let plain : all is_plain digits ≡ true = all_of is_plain is_digit digit_plain digits h in
    let whole : IsWhole (40 ∷ ((codes "unnamed #" ++ digits) ++ 41 ∷ [])) = whole_enclosed (codes "unnamed #" ++ digits) (listed_whole (codes "unnamed #" ++ digits) (whole_plain (codes "unnamed #" ++ digits) plain)) in
    record {
      base = record {
        passed = passed_append (codes "(unnamed #") (digits ++ codes ")") (λ text. refl) (passed_append digits (codes ")") (passed_plain digits plain) (λ text. refl));
        whole = subst (λ (x : List ℕ). IsWhole (40 ∷ x)) (append_assoc (codes "unnamed #") digits (41 ∷ [])) whole;
        starless = star_append digits (41 ∷ []) ∙ or_from (has_star digits) false (star_plain digits plain) refl;
        heads = λ text t. record { opens = refl; no_blank = refl };
        no_const = refl;
        no_volatile = refl;
      };
      kind = refl;
      not_void = refl;
    }

pub spelled_other : (name : List ℕ) → IsSpelledName name → IsOther name
spelled_other name (inl t) = identifier_other name t
spelled_other name (inr u) = subst IsOther (sym u.2) (unnamed_other u.0 u.1)
