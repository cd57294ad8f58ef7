-- What is read of texts that are put together: up to the function's own bracket, up to the bracket that closes, and between
-- commas.
use Rattle.std.proofs.Common.{◌≡◌, ℕ, ◌+◌, ◌-◌, List, [], ◌∷◌, ◌++◌, length, take, drop, Bool, true, false, not, ◌&&◌, ◌||◌, if◌then◌else◌, ◌==◌, codes, bytes_eq, refl, sym, ◌∙◌, ap, arith, append_assoc, take-append-drop, append-nil}
use Rattle.std.proofs.lemmas.Bool.{and_parts, not-true, false_from_ne_true, true≢false, ne_eqb}
use Rattle.std.proofs.lemmas.Slice.Eq.{bytes_eq-Decides}
use Rattle.num_ops.specs.declared.kinds.IntKind.{IntKind}
use Rattle.num_ops.specs.declared.kinds.IntKind.TheVariants as k
use Rattle.c_core.specs.Signatures.{kind_in, has_star, starts, without, opens_parameters, front, without_last, depth_behind, inside, cut, pieces}

or_joined : (a b c : Bool) → (a || (b || c)) ≡ ((a || b) || c)
or_joined true b c = refl
or_joined false b c = refl

-- ---- plain characters: no bracket, star or comma

abbrev pub all : (ℕ → Bool) → List ℕ → Bool
all p [] = true
all p (c ∷ text) = p c && all p text

pub all_parts : (p : ℕ → Bool) (c : ℕ) (text : List ℕ) → all p (c ∷ text) ≡ true → (p c ≡ true) × (all p text ≡ true)
all_parts p c text h = and_parts (p c) (all p text) h

abbrev pub is_plain : ℕ → Bool
is_plain c = not (c == 40) && (not (c == 41) && (not (c == 42) && not (c == 44)))

pub record IsPlain (c : ℕ) : Type 0 where
  pub opens : (c == 40) ≡ false
  pub closes : (c == 41) ≡ false
  pub star : (c == 42) ≡ false
  pub comma : (c == 44) ≡ false

pub plain_of : (c : ℕ) → is_plain c ≡ true → IsPlain c
plain_of c h =
    let p = and_parts (not (c == 40)) (not (c == 41) && (not (c == 42) && not (c == 44))) h in
    let q = and_parts (not (c == 41)) (not (c == 42) && not (c == 44)) p.1 in
    let r = and_parts (not (c == 42)) (not (c == 44)) q.1 in
    record { opens = not-true (c == 40) p.0; closes = not-true (c == 41) q.0; star = not-true (c == 42) r.0; comma = not-true (c == 44) r.1 }

-- ---- texts in which no bracket opens the function's own parameters

abbrev pub Passed : List ℕ → Type 0
Passed x = (text : List ℕ) → front (x ++ text) ≡ x ++ front text

pub passed_append : (x y : List ℕ) → Passed x → Passed y → Passed (x ++ y)
passed_append x y p q text = ap front (append_assoc x y text) ∙ p (y ++ text) ∙ ap (λ (e : List ℕ). x ++ e) (q text) ∙ sym (append_assoc x y (front text))

passed_char : (c : ℕ) → (c == 40) ≡ false → (text : List ℕ) → front (c ∷ text) ≡ c ∷ front text
passed_char c e text = ap (λ (b : Bool). if (b && not (starts (codes "*") text || starts (codes "unnamed #") text)) then [] else (c ∷ front text)) e

pub passed_plain : (x : List ℕ) → all is_plain x ≡ true → Passed x
passed_plain [] h text = refl
passed_plain (c ∷ x) h text =
    let p = and_parts (is_plain c) (all is_plain x) h in
    let q : IsPlain c = plain_of c p.0 in
    passed_char c q.opens (x ++ text) ∙ ap (λ (e : List ℕ). c ∷ e) (passed_plain x p.1 text)

pub opened : (text : List ℕ) → opens_parameters 40 text ≡ true → front (40 ∷ text) ≡ []
opened text e = ap (λ (b : Bool). if b then [] else (40 ∷ front text)) e

-- ---- stars

pub star_append : (x y : List ℕ) → has_star (x ++ y) ≡ (has_star x || has_star y)
star_append [] y = refl
star_append (c ∷ x) y = ap (λ (b : Bool). (c == 42) || b) (star_append x y) ∙ or_joined (c == 42) (has_star x) (has_star y)

pub star_plain : (x : List ℕ) → all is_plain x ≡ true → has_star x ≡ false
star_plain [] h = refl
star_plain (c ∷ x) h =
    let p = and_parts (is_plain c) (all is_plain x) h in
    let q : IsPlain c = plain_of c p.0 in
    ap (λ (b : Bool). b || has_star x) q.star ∙ star_plain x p.1

-- ---- brackets that match, and commas

-- a text before the pieces that follow it
abbrev pub led : List ℕ → List (List ℕ) → List (List ℕ)
led [] rest = rest
led (c ∷ text) rest = cut false c (led text rest)

pub led_append : (x y : List ℕ) (rest : List (List ℕ)) → led (x ++ y) rest ≡ led x (led y rest)
led_append [] y rest = refl
led_append (c ∷ x) y rest = ap (cut false c) (led_append x y rest)

pub led_piece : (x y : List ℕ) (rest : List (List ℕ)) → led x (y ∷ rest) ≡ (x ++ y) ∷ rest
led_piece [] y rest = refl
led_piece (c ∷ x) y rest = ap (cut false c) (led_piece x y rest)

-- its brackets match, and its commas stand inside of them
pub record IsWhole (x : List ℕ) : Type 0 where
  pub inside_is : (depth : ℕ) (text : List ℕ) → inside depth (x ++ text) ≡ x ++ inside depth text
  pub pieces_are : (depth : ℕ) (text : List ℕ) → pieces depth (x ++ text) ≡ led x (pieces depth text)

-- its brackets match
pub record IsListed (x : List ℕ) : Type 0 where
  pub inside_is : (depth : ℕ) (text : List ℕ) → inside depth (x ++ text) ≡ x ++ inside depth text
  pub pieces_are : (depth : ℕ) (text : List ℕ) → pieces (depth + 1) (x ++ text) ≡ led x (pieces (depth + 1) text)

pub listed_whole : (x : List ℕ) → IsWhole x → IsListed x
listed_whole x w = record { inside_is = w.inside_is; pieces_are = λ depth text. w.pieces_are (depth + 1) text }

inside_append : (x y : List ℕ) → ((depth : ℕ) (text : List ℕ) → inside depth (x ++ text) ≡ x ++ inside depth text) → ((depth : ℕ) (text : List ℕ) → inside depth (y ++ text) ≡ y ++ inside depth text)
    → (depth : ℕ) (text : List ℕ) → inside depth ((x ++ y) ++ text) ≡ (x ++ y) ++ inside depth text
inside_append x y p q depth text =
    ap (inside depth) (append_assoc x y text) ∙ p depth (y ++ text) ∙ ap (λ (e : List ℕ). x ++ e) (q depth text) ∙ sym (append_assoc x y (inside depth text))

pieces_append : (x y text : List ℕ) (depth : ℕ) → pieces depth (x ++ (y ++ text)) ≡ led x (pieces depth (y ++ text)) → pieces depth (y ++ text) ≡ led y (pieces depth text)
    → pieces depth ((x ++ y) ++ text) ≡ led (x ++ y) (pieces depth text)
pieces_append x y text depth p q = ap (pieces depth) (append_assoc x y text) ∙ p ∙ ap (led x) q ∙ sym (led_append x y (pieces depth text))

pub whole_append : (x y : List ℕ) → IsWhole x → IsWhole y → IsWhole (x ++ y)
whole_append x y p q = record {
  inside_is = inside_append x y p.inside_is q.inside_is;
  pieces_are = λ depth text. pieces_append x y text depth (p.pieces_are depth (y ++ text)) (q.pieces_are depth text);
}

pub listed_append : (x y : List ℕ) → IsListed x → IsListed y → IsListed (x ++ y)
listed_append x y p q = record {
  inside_is = inside_append x y p.inside_is q.inside_is;
  pieces_are = λ depth text. pieces_append x y text (depth + 1) (p.pieces_are depth (y ++ text)) (q.pieces_are depth text);
}

pub whole_nil : IsWhole []
whole_nil = record { inside_is = λ depth text. refl; pieces_are = λ depth text. refl }

depth_plain : (c depth : ℕ) → IsPlain c → depth_behind c depth ≡ depth
depth_plain c depth p =
    ap (λ (b : Bool). if b then (depth + 1) else (if (c == 41) then (depth - 1) else depth)) p.opens
    ∙ ap (λ (b : Bool). if b then (depth - 1) else depth) p.closes

inside_plain : (c depth : ℕ) (text : List ℕ) → IsPlain c → inside depth (c ∷ text) ≡ c ∷ inside depth text
inside_plain c depth text p =
    ap (λ (b : Bool). if (b && (depth == 0)) then [] else (c ∷ inside (depth_behind c depth) text)) p.closes
    ∙ ap (λ (d : ℕ). c ∷ inside d text) (depth_plain c depth p)

pieces_plain : (c depth : ℕ) (text : List ℕ) → IsPlain c → pieces depth (c ∷ text) ≡ cut false c (pieces depth text)
pieces_plain c depth text p =
    ap (λ (b : Bool). cut (b && (depth == 0)) c (pieces (depth_behind c depth) text)) p.comma
    ∙ ap (λ (d : ℕ). cut false c (pieces d text)) (depth_plain c depth p)

whole_char : (c : ℕ) → IsPlain c → IsWhole (c ∷ [])
whole_char c p = record { inside_is = λ depth text. inside_plain c depth text p; pieces_are = λ depth text. pieces_plain c depth text p }

pub whole_plain : (x : List ℕ) → all is_plain x ≡ true → IsWhole x
whole_plain [] h = whole_nil
whole_plain (c ∷ x) h =
    let p = and_parts (is_plain c) (all is_plain x) h in
    whole_append (c ∷ []) x (whole_char c (plain_of c p.0)) (whole_plain x p.1)

deep : (depth : ℕ) → (depth + 1 == 0) ≡ false
deep depth = ne_eqb (depth + 1) 0 (λ e. omega (arith, e))

back : (depth : ℕ) → depth + 1 - 1 ≡ depth
back depth = omega arith

inside_closed : (depth : ℕ) (text : List ℕ) → inside (depth + 1) (41 ∷ text) ≡ 41 ∷ inside depth text
inside_closed depth text =
    ap (λ (b : Bool). if b then [] else (41 ∷ inside (depth + 1 - 1) text)) (deep depth) ∙ ap (λ (d : ℕ). 41 ∷ inside d text) (back depth)

pieces_closed : (depth : ℕ) (text : List ℕ) → pieces (depth + 1) (41 ∷ text) ≡ cut false 41 (pieces depth text)
pieces_closed depth text = ap (λ (d : ℕ). cut false 41 (pieces d text)) (back depth)

closed_is : (x text : List ℕ) → (x ++ 41 ∷ []) ++ text ≡ x ++ (41 ∷ text)
closed_is x text = append_assoc x (41 ∷ []) text

pub whole_enclosed : (x : List ℕ) → IsListed x → IsWhole (40 ∷ (x ++ 41 ∷ []))
whole_enclosed x l = record {
  inside_is = λ depth text.
      ap (λ (e : List ℕ). 40 ∷ e) (ap (inside (depth + 1)) (closed_is x text) ∙ l.inside_is (depth + 1) (41 ∷ text) ∙ ap (λ (e : List ℕ). x ++ e) (inside_closed depth text) ∙ sym (closed_is x (inside depth text)));
  pieces_are = λ depth text.
      ap (cut false 40) (ap (pieces (depth + 1)) (closed_is x text) ∙ l.pieces_are depth (41 ∷ text) ∙ ap (led x) (pieces_closed depth text) ∙ sym (led_append x (41 ∷ []) (pieces depth text)));
}

pub listed_comma : IsListed (44 ∷ [])
listed_comma = record {
  inside_is = λ depth text. refl;
  pieces_are = λ depth text. ap (λ (b : Bool). cut b 44 (pieces (depth + 1) text)) (deep depth);
}

pub inside_ends : (x text : List ℕ) → IsListed x → inside 0 (x ++ 41 ∷ text) ≡ x
inside_ends x text l = l.inside_is 0 (41 ∷ text) ∙ append-nil x

-- ---- names that begin like the words for a type without a name

abbrev stops : ℕ → Bool
stops c = (c == 40) || ((c == 41) || ((c == 42) || ((c == 44) || (c == 91))))

-- no `#` before the first bracket, star or comma
abbrev pub clear : List ℕ → Bool
clear [] = true
clear (c ∷ text) = if (c == 35) then false else (if stops c then true else clear text)

abbrev pub is_no_hash : ℕ → Bool
is_no_hash c = not (c == 35)

stopped : (b d : Bool) → d ≡ true → (if b then true else d) ≡ true
stopped true d h = refl
stopped false d h = h

pub clear_append : (x text : List ℕ) → all is_no_hash x ≡ true → clear text ≡ true → clear (x ++ text) ≡ true
clear_append [] text h t = t
clear_append (c ∷ x) text h t =
    let p = and_parts (is_no_hash c) (all is_no_hash x) h in
    ap (λ (b : Bool). if b then false else (if stops c then true else clear (x ++ text))) (not-true (c == 35) p.0)
    ∙ stopped (stops c) (clear (x ++ text)) (clear_append x text p.1 t)

pub not_unnamed : (text : List ℕ) → clear text ≡ true → starts (codes "unnamed #") text ≡ false
not_unnamed text t = false_from_ne_true (starts (codes "unnamed #") text) (λ e.
    let front : take 9 text ≡ codes "unnamed #" = (bytes_eq-Decides (take 9 text) (codes "unnamed #")).0 e in
    let whole : text ≡ codes "unnamed #" ++ drop 9 text = sym (take-append-drop 9 text) ∙ ap (λ (x : List ℕ). x ++ drop 9 text) front in
    true≢false (sym t ∙ ap clear whole))

-- ---- texts that have a character which no name has

abbrev pub has : ℕ → List ℕ → Bool
has x [] = false
has x (c ∷ text) = (c == x) || has x text

pub has_middle : (x : ℕ) (u v : List ℕ) → (x == x) ≡ true → has x (u ++ x ∷ v) ≡ true
has_middle x [] v e = ap (λ (b : Bool). b || has x v) e
has_middle x (c ∷ u) v e = ap (λ (b : Bool). (c == x) || b) (has_middle x u v e) ∙ either (c == x)
  where
    either : (b : Bool) → (b || true) ≡ true
    either true = refl
    either false = refl

-- a text that passes a test and one that doesn't are different
pub apart : (test : List ℕ → Bool) (word text : List ℕ) → test word ≡ true → test text ≡ false → bytes_eq word text ≡ false
apart test word text h t = false_from_ne_true (bytes_eq word text) (λ e. true≢false (sym h ∙ ap test ((bytes_eq-Decides word text).0 e) ∙ t))

abbrev pub each_passes : (List ℕ → Bool) → List (List ℕ × IntKind) → Bool
each_passes test [] = true
each_passes test (entry ∷ entries) = test entry.0 && each_passes test entries

-- what is none of the integer names is taken for an enumeration's
pub kind_apart : (test : List ℕ → Bool) (entries : List (List ℕ × IntKind)) (text : List ℕ) → each_passes test entries ≡ true → test text ≡ false → kind_in entries text ≡ k.Int
kind_apart test [] text h t = refl
kind_apart test (entry ∷ entries) text h t =
    let p = and_parts (test entry.0) (each_passes test entries) h in
    ap (λ (b : Bool). if b then entry.1 else kind_in entries text) (apart test entry.0 text p.0 t) ∙ kind_apart test entries text p.1 t

-- ---- the name before the function's own bracket

pub last_left : (x : List ℕ) (c : ℕ) → without_last (x ++ c ∷ []) ≡ x
last_left [] c = refl
last_left (d ∷ []) c = refl
last_left (d ∷ e ∷ x) c = ap (λ (y : List ℕ). d ∷ y) (last_left (e ∷ x) c)

pub kept : (word text : List ℕ) → starts word text ≡ false → without word text ≡ text
kept word text e = ap (λ (b : Bool). if b then drop (length word) text else text) e
