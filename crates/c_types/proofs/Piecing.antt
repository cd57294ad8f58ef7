-- A spelling in pieces.
use Rattle.std.proofs.Common.{◌≡◌, ◌≢◌, ℕ, zero, suc, ◌+◌, ◌-◌, ◌<◌, ◌≤◌, ◌/◌, ◌%◌, List, [], ◌∷◌, ◌++◌, length, Bool, true, false, if◌then◌else◌, ◌==◌, nat_lt, bit_or, codes, Option, Some, None, Result, Ok, Err, OnOk, IfNone, IfSome, slice_get, refl, sym, ◌∙◌, ap, arith, append_assoc, append-nil}
use Rattle.std.proofs.lemmas.Bool.{lt-ltb, le-ltb}
use Rattle.tok_base.specs.declared.list.NoMemory.{NoMemory}
use Rattle.c_types.specs.CTypes.{CType, Void, Int, Enum, Pointer, Array, Flexible, Function, Record, Named, Qualified, no_types, one_type}
use Rattle.c_types.specs.Canonical.{canonical}
use Rattle.c_types.specs.Spelling.{Names, stripped, spelling, spelled, spelled_parameters, spaced, star, enclosed, is_suffixed, base, base_qualifiers, pointer_qualifiers, int_name, decimal, digits_before}
use Rattle.c_types.specs.Pieces.{begins, gap, bracketed, called, opened, closed, starred, star_text, base_text, before, behind, without, piece_text, text, piece_work, work, IsPiece, ArePieces, IsWritten}
use Rattle.c_types.specs.Table.{type_at, types_at, term_type, AllBelow}
use Rattle.c_types.specs.declared.pieces.Inside.{Inside}
use Rattle.c_types.specs.declared.pieces.Inside.TheVariants as i
use Rattle.c_types.specs.declared.pieces.Piece.{Piece}
use Rattle.c_types.specs.declared.pieces.Piece.TheVariants as p
use Rattle.c_types.specs.declared.terms.Term.{Term}
use Rattle.c_types.specs.declared.terms.Term.TheVariants as m
use Rattle.c_types.specs.declared.terms.TypeId.{TypeId}

-- a spelling stands before and behind the text inside

spaced_by : (b : Bool) (x : ℕ) (xs : List ℕ) → (if b then (x ∷ xs) else (32 ∷ x ∷ xs)) ≡ gap (if b then i.Bracket else i.Other) ++ x ∷ xs
spaced_by true x xs = refl
spaced_by false x xs = refl

pub spaced_is : (d : List ℕ) → spaced d ≡ gap (begins d) ++ d
spaced_is [] = refl
spaced_is (x ∷ xs) = spaced_by (x == 91) x xs

base_is : (q : ℕ) (name d : List ℕ) → base q name d ≡ base_text q name (begins d) ++ (d ++ [])
base_is q name d = ap (λ (e : List ℕ). (base_qualifiers q ++ name) ++ e) (spaced_is d) ∙ sym (append_assoc (base_qualifiers q ++ name) (gap (begins d)) d) ∙ ap (λ (e : List ℕ). base_text q name (begins d) ++ e) (sym (append-nil d))

begins_bracket : (d ds : List ℕ) → begins (d ++ (91 ∷ ds)) ≡ bracketed (begins d)
begins_bracket [] ds = refl
begins_bracket (x ∷ xs) ds = by (x == 91)
  where
    by : (b : Bool) → (if b then i.Bracket else i.Other) ≡ bracketed (if b then i.Bracket else i.Other)
    by true = refl
    by false = refl

begins_called : (d ds : List ℕ) → begins (d ++ (40 ∷ ds)) ≡ called (begins d)
begins_called [] ds = refl
begins_called (x ∷ xs) ds = by (x == 91)
  where
    by : (b : Bool) → (if b then i.Bracket else i.Other) ≡ called (if b then i.Bracket else i.Other)
    by true = refl
    by false = refl

star_is : (q : ℕ) (d : List ℕ) → star q d ≡ 42 ∷ (starred q (begins d) ++ d)
star_is q d = by (q == 0)
  where
    by : (b : Bool) → (if b then (42 ∷ d) else ((42 ∷ pointer_qualifiers q) ++ spaced d)) ≡ 42 ∷ ((if b then [] else pointer_qualifiers q ++ gap (begins d)) ++ d)
    by true = refl
    by false = ap (λ (e : List ℕ). 42 ∷ (pointer_qualifiers q ++ e)) (spaced_is d) ∙ ap (λ (e : List ℕ). 42 ∷ e) (sym (append_assoc (pointer_qualifiers q) (gap (begins d)) d))

enclosed_by : (b : Bool) (s d : List ℕ) → (if b then ((40 ∷ 42 ∷ (s ++ d)) ++ 41 ∷ []) else (42 ∷ (s ++ d))) ≡ (opened b ++ (42 ∷ s)) ++ (d ++ closed b)
enclosed_by true s d = ap (λ (e : List ℕ). 40 ∷ 42 ∷ e) (append_assoc s d (41 ∷ []))
enclosed_by false s d = ap (λ (e : List ℕ). 42 ∷ (s ++ e)) (sym (append-nil d))

enclosed_is : (t : CType) (q : ℕ) (d : List ℕ) → enclosed t (star q d) ≡ star_text q (begins d) (is_suffixed t) ++ (d ++ closed (is_suffixed t))
enclosed_is t q d = ap (enclosed t) (star_is q d) ∙ enclosed_by (is_suffixed t) (starred q (begins d)) d

begins_star : (b : Bool) (s d : List ℕ) → begins ((opened b ++ (42 ∷ s)) ++ d) ≡ i.Other
begins_star true s d = refl
begins_star false s d = refl

-- a text in the middle, with the parts around it put together
around : (a x d y z : List ℕ) → a ++ ((x ++ (d ++ y)) ++ z) ≡ (a ++ x) ++ (d ++ (y ++ z))
around a x d y z = ap (λ (e : List ℕ). a ++ e) (append_assoc x (d ++ y) z ∙ ap (λ (e : List ℕ). x ++ e) (append_assoc d y z)) ∙ sym (append_assoc a x (d ++ (y ++ z)))

after : (a d y z : List ℕ) → a ++ ((d ++ y) ++ z) ≡ a ++ (d ++ (y ++ z))
after a d y z = ap (λ (e : List ℕ). a ++ e) (append_assoc d y z)

pub parts : (names : Names) (q : ℕ) (t : CType) (d : List ℕ) → spelled names q t d ≡ before names q t (begins d) ++ (d ++ behind names t)
parts names q Void d = base_is q (codes "void") d
parts names q (Int kind) d = base_is q (int_name kind) d
parts names q (Enum e) d = base_is q (names.enums e) d
parts names q (Record k) d = base_is q (names.records k) d
parts names q (Pointer t) d =
    let s : List ℕ = star_text q (begins d) (is_suffixed t) in
    let c : List ℕ = closed (is_suffixed t) in
    let e : enclosed t (star q d) ≡ s ++ (d ++ c) = enclosed_is t q d in
    let first : begins (s ++ (d ++ c)) ≡ i.Other = begins_star (is_suffixed t) (starred q (begins d)) (d ++ c) in
    ap (spelled names 0 t) e ∙ parts names 0 t (s ++ (d ++ c)) ∙ ap (λ (n : Inside). before names 0 t n ++ ((s ++ (d ++ c)) ++ behind names t)) first
    ∙ around (before names 0 t i.Other) s d c (behind names t)
parts names q (Array t n) d =
    let e : List ℕ = (91 ∷ decimal n) ++ 93 ∷ [] in
    ap (spelled names q t) (append_assoc d (91 ∷ decimal n) (93 ∷ [])) ∙ parts names q t (d ++ e) ∙ ap (λ (k : Inside). before names q t k ++ ((d ++ e) ++ behind names t)) (begins_bracket d (decimal n ++ 93 ∷ [])) ∙ after (before names q t (bracketed (begins d))) d e (behind names t)
parts names q (Flexible t) d =
    let e : List ℕ = 91 ∷ 93 ∷ [] in
    parts names q t (d ++ e) ∙ ap (λ (k : Inside). before names q t k ++ ((d ++ e) ++ behind names t)) (begins_bracket d (93 ∷ [])) ∙ after (before names q t (bracketed (begins d))) d e (behind names t)
parts names q (Function r ps) d =
    let a : List ℕ = 40 ∷ spelled_parameters names ps in
    let e : List ℕ = a ++ 41 ∷ [] in
    ap (spelled names 0 r) (append_assoc d a (41 ∷ [])) ∙ parts names 0 r (d ++ e) ∙ ap (λ (k : Inside). before names 0 r k ++ ((d ++ e) ++ behind names r)) (begins_called d (spelled_parameters names ps ++ 41 ∷ [])) ∙ after (before names 0 r (called (begins d))) d e (behind names r)
    ∙ ap (λ (y : List ℕ). before names 0 r (called (begins d)) ++ (d ++ y)) (append_assoc a (41 ∷ []) (behind names r))
parts names q (Named s t) d = parts names q t d
parts names q (Qualified p t) d = parts names (bit_or q p) t d

behind_stripped : (names : Names) (t : CType) → behind names (stripped t) ≡ behind names t
behind_stripped names (Qualified q t) = refl
behind_stripped names (Array t n) = ap (λ (e : List ℕ). ((91 ∷ decimal n) ++ 93 ∷ []) ++ e) (behind_stripped names t)
behind_stripped names (Flexible t) = ap (λ (e : List ℕ). (91 ∷ 93 ∷ []) ++ e) (behind_stripped names t)
behind_stripped names Void = refl
behind_stripped names (Int k) = refl
behind_stripped names (Enum e) = refl
behind_stripped names (Pointer t) = refl
behind_stripped names (Function r ps) = refl
behind_stripped names (Record k) = refl
behind_stripped names (Named n t) = refl

pub spelling_is : (names : Names) (t : CType) → spelling names t ≡ before names 0 (stripped (canonical t)) i.Nothing ++ behind names (canonical t)
spelling_is names t = parts names 0 (stripped (canonical t)) [] ∙ ap (λ (e : List ℕ). before names 0 (stripped (canonical t)) i.Nothing ++ e) (behind_stripped names (canonical t))

-- pieces

module _ (ts : List Term) (names : Names) where
  pub text_append : (xs ys : List Piece) → text ts names (xs ++ ys) ≡ text ts names ys ++ text ts names xs
  text_append [] ys = sym (append-nil (text ts names ys))
  text_append (x ∷ xs) ys = ap (λ (e : List ℕ). e ++ piece_text ts names x) (text_append xs ys) ∙ append_assoc (text ts names ys) (text ts names xs) (piece_text ts names x)

  pub work_append : (xs ys : List Piece) → work ts (xs ++ ys) ≡ work ts ys + work ts xs
  work_append [] ys = omega arith
  work_append (x ∷ xs) ys = omega (arith, work_append xs ys)

  pub pieces_append : (n : ℕ) (xs ys : List Piece) → ArePieces n xs → ArePieces n ys → ArePieces n (xs ++ ys)
  pieces_append n [] ys a b = b
  pieces_append n (x ∷ xs) ys a b = (a.0, pieces_append n xs ys a.1 b)

  pub pieces_last : (n : ℕ) (xs : List Piece) (x : Piece) → ArePieces n (xs ++ x ∷ []) → ArePieces n xs × IsPiece n x
  pieces_last n [] x a = (tt, a.0)
  pieces_last n (y ∷ xs) x a = let r = pieces_last n xs x a.1 in ((a.0, r.0), r.1)

  -- some text is written, and these pieces are put in the place of one
  pub written : (x : Piece) (out out' : List ℕ) (xs xs' : List Piece) (a : List ℕ) (ys : List Piece) → out' ≡ out ++ a → xs' ≡ xs ++ ys → a ++ text ts names ys ≡ piece_text ts names x → work ts ys < piece_work ts x → ArePieces (length ts) ys → ArePieces (length ts) xs
      → IsWritten ts names x out xs out' xs'
  written x out out' xs xs' a ys e f t w v u = rw (e, f) (record {
    text_is = ap (λ (z : List ℕ). (out ++ a) ++ z) (text_append xs ys) ∙ append_assoc out a (text ts names ys ++ text ts names xs) ∙ ap (λ (z : List ℕ). out ++ z) (sym (append_assoc a (text ts names ys) (text ts names xs)) ∙ ap (λ (z : List ℕ). z ++ text ts names xs) t);
    less = omega (arith, work_append xs ys, w);
    valid = pieces_append (length ts) xs ys u v;
  })

  -- some text is written, and one piece is put in the place of another
  pub written_one : (x : Piece) (out out' : List ℕ) (xs xs' : List Piece) (a : List ℕ) (y : Piece) → out' ≡ out ++ a → xs' ≡ xs ++ y ∷ [] → a ++ piece_text ts names y ≡ piece_text ts names x → piece_work ts y < piece_work ts x → IsPiece (length ts) y → ArePieces (length ts) xs
      → IsWritten ts names x out xs out' xs'
  written_one x out out' xs xs' a y e f t w v u = written x out out' xs xs' a (y ∷ []) e f t (omega (arith, w)) (v, tt) u

  -- one piece is put in the place of another
  pub put_one : (x : Piece) (out : List ℕ) (xs xs' : List Piece) (y : Piece) → xs' ≡ xs ++ y ∷ [] → piece_text ts names y ≡ piece_text ts names x → piece_work ts y < piece_work ts x → IsPiece (length ts) y → ArePieces (length ts) xs
      → IsWritten ts names x out xs out xs'
  put_one x out xs xs' y f t w v u = written_one x out out xs xs' [] y (sym (append-nil out)) f t w v u

  -- a piece is written
  pub written_whole : (x : Piece) (out out' : List ℕ) (xs : List Piece) (a : List ℕ) → out' ≡ out ++ a → a ≡ piece_text ts names x → 0 < piece_work ts x → ArePieces (length ts) xs → IsWritten ts names x out xs out' xs
  written_whole x out out' xs a e t w u = written x out out' xs xs a [] e (sym (append-nil xs)) (append-nil a ∙ t) w tt u

  pub stripped_other : (t : Term) → ((e : TypeId) (n : ℕ) → t ≡ m.Array e n → ⊥) → ((e : TypeId) → t ≡ m.Flexible e → ⊥) → ((q : ℕ) (e : TypeId) → t ≡ m.Qualified q e → ⊥) → stripped (term_type ts t) ≡ term_type ts t
  stripped_other (m.Array e n) a b d = absurd (a e n refl)
  stripped_other (m.Flexible e) a b d = absurd (b e refl)
  stripped_other (m.Qualified q e) a b d = absurd (d q e refl)
  stripped_other m.Void a b d = refl
  stripped_other (m.Int k) a b d = refl
  stripped_other (m.Enum e) a b d = refl
  stripped_other (m.Pointer t) a b d = refl
  stripped_other (m.Function t ps) a b d = refl
  stripped_other (m.Record k) a b d = refl
  stripped_other (m.Named n t) a b d = refl

-- parameters

pub item_at_is : (ts : List Term) (ps : List TypeId) (k : ℕ) (p : TypeId) → slice_get ps k ≡ Some p → without k (types_at ts ps) ≡ one_type (type_at ts p.0) (without (k + 1) (types_at ts ps))
item_at_is ts [] k p e = cc
item_at_is ts (q ∷ ps) zero p e = let s : q ≡ p = cc in ap (λ (x : TypeId). one_type (type_at ts x.0) (types_at ts ps)) s
item_at_is ts (q ∷ ps) (suc k) p e = let n : suc k + 1 ≡ suc (k + 1) = omega arith in rw n (item_at_is ts ps k p e)

pub no_item_is : (ts : List Term) (ps : List TypeId) (k : ℕ) → slice_get ps k ≡ None → without k (types_at ts ps) ≡ no_types
no_item_is ts [] zero e = refl
no_item_is ts [] (suc k) e = refl
no_item_is ts (q ∷ ps) zero e = cc
no_item_is ts (q ∷ ps) (suc k) e = no_item_is ts ps k e

pub item_below : (n : ℕ) (ps : List TypeId) (k : ℕ) (p : TypeId) → slice_get ps k ≡ Some p → AllBelow n ps → p.0 < n
item_below n [] k p e a = cc
item_below n (q ∷ ps) zero p e a = let s : q ≡ p = cc in rw s at a.0
item_below n (q ∷ ps) (suc k) p e a = item_below n ps k p e a.1

-- parameters by their place
module _ (ts : List Term) (ps : List TypeId) (k : ℕ) where
  pub none_by : (o : Option TypeId) → o ≡ slice_get ps k → IfNone o (without k (types_at ts ps) ≡ no_types)
  none_by None e = no_item_is ts ps k (sym e)
  none_by (Some p) e = tt

  pub some_by : (o : Option TypeId) → o ≡ slice_get ps k → IfSome o (λ p. without k (types_at ts ps) ≡ one_type (type_at ts p.0) (without (k + 1) (types_at ts ps)))
  some_by None e = tt
  some_by (Some p) e = item_at_is ts ps k p (sym e)

  pub within_by : (n : ℕ) (o : Option TypeId) → o ≡ slice_get ps k → AllBelow n ps → IfSome o (λ p. p.0 < n)
  within_by n None e a = tt
  within_by n (Some p) e a = item_below n ps k p (sym e) a

pub on_ok : {P Q : Type 0} (r : Result (Unit {0}) NoMemory) → OnOk r P → (P → Q) → OnOk r Q
on_ok (Ok x) p f = f p
on_ok (Err e) p f = tt

-- digits

digits_by : (b : Bool) (most n : ℕ) (d : List ℕ) → ((e : List ℕ) → digits_before most (n / 10) e ≡ digits_before most (n / 10) [] ++ e) → (if b then ((48 + n) ∷ d) else digits_before most (n / 10) ((48 + n % 10) ∷ d)) ≡ (if b then ((48 + n) ∷ []) else digits_before most (n / 10) ((48 + n % 10) ∷ [])) ++ d
digits_by true most n d h = refl
digits_by false most n d h = h ((48 + n % 10) ∷ d) ∙ sym (append_assoc (digits_before most (n / 10) []) ((48 + n % 10) ∷ []) d) ∙ ap (λ (e : List ℕ). e ++ d) (sym (h ((48 + n % 10) ∷ [])))

digits_front : (most n : ℕ) (d : List ℕ) → digits_before most n d ≡ digits_before most n [] ++ d
digits_front zero n d = refl
digits_front (suc most) n d = digits_by (nat_lt n 10) most n d (digits_front most (n / 10))

pub digits_one : (most n : ℕ) → most ≢ 0 → n < 10 → digits_before most n [] ≡ (48 + n) ∷ []
digits_one zero n m l = absurd (m refl)
digits_one (suc most) n m l = let yes : nat_lt n 10 ≡ true = lt-ltb n 10 l in rw yes refl

pub digits_more : (most n : ℕ) → most ≢ 0 → 10 ≤ n → digits_before most n [] ≡ digits_before (most - 1) (n / 10) [] ++ (48 + n % 10) ∷ []
digits_more zero n m l = absurd (m refl)
digits_more (suc most) n m l =
    let no : nat_lt n 10 ≡ false = le-ltb n 10 l in
    let less : suc most - 1 ≡ most = omega arith in
    rw (no, less) (digits_front most (n / 10) ((48 + n % 10) ∷ []))

-- pushes in turn
pub two_pushes : {A : Type 0} (xs ys zs : List A) (x y : A) → ys ≡ xs ++ x ∷ [] → zs ≡ ys ++ y ∷ [] → zs ≡ xs ++ x ∷ y ∷ []
two_pushes {A} xs ys zs x y e f = f ∙ ap (λ (us : List A). us ++ y ∷ []) e ∙ append_assoc xs (x ∷ []) (y ∷ [])

pub three_pushes : {A : Type 0} (xs ys zs us : List A) (x y z : A) → ys ≡ xs ++ x ∷ [] → zs ≡ ys ++ y ∷ [] → us ≡ zs ++ z ∷ [] → us ≡ xs ++ x ∷ y ∷ z ∷ []
three_pushes {A} xs ys zs us x y z e f g = g ∙ ap (λ (vs : List A). vs ++ z ∷ []) (two_pushes xs ys zs x y e f) ∙ append_assoc xs (x ∷ y ∷ []) (z ∷ [])

pub digits_pushed : (out mid new : List ℕ) (most n : ℕ) → most ≢ 0 → 10 ≤ n → mid ≡ out ++ digits_before (most - 1) (n / 10) [] → new ≡ mid ++ (48 + n % 10) ∷ [] → new ≡ out ++ digits_before most n []
digits_pushed out mid new most n m l e f = f ∙ ap (λ (us : List ℕ). us ++ (48 + n % 10) ∷ []) e ∙ append_assoc out (digits_before (most - 1) (n / 10) []) ((48 + n % 10) ∷ []) ∙ ap (λ (us : List ℕ). out ++ us) (sym (digits_more most n m l))

pub called_text : (a b : List ℕ) → (40 ∷ []) ++ ((a ++ 41 ∷ []) ++ b) ≡ (40 ∷ a) ++ (41 ∷ b)
called_text a b = ap (λ (us : List ℕ). 40 ∷ us) (append_assoc a (41 ∷ []) b)

-- a turn of the work list
pub turn_less : (ts : List Term) (names : Names) (all xs ys : List Piece) (x : Piece) → all ≡ xs ++ x ∷ [] → work ts ys < piece_work ts x + work ts xs → work ts ys < work ts all
turn_less ts names all xs ys x e l = rw e (omega (arith, work_append ts names xs (x ∷ []), l))

pub turn_text : (ts : List Term) (names : Names) (all xs ys : List Piece) (x : Piece) (out out' whole : List ℕ) → all ≡ xs ++ x ∷ [] → out' ++ text ts names ys ≡ out ++ (piece_text ts names x ++ text ts names xs) → out ++ text ts names all ≡ whole → out' ++ text ts names ys ≡ whole
turn_text ts names all xs ys x out out' whole e t h = t ∙ sym (ap (λ (us : List Piece). out ++ text ts names us) e ∙ ap (λ (us : List ℕ). out ++ us) (text_append ts names xs (x ∷ []))) ∙ h

pub first_text : (ts : List Term) (names : Names) (root : TypeId) (t : CType) (out : List ℕ) (first second all : List Piece) → out ≡ [] → first ≡ [] → second ≡ first ++ p.Behind root ∷ [] → all ≡ second ++ p.Outer root i.Nothing ∷ [] → type_at ts root.0 ≡ canonical t → out ++ text ts names all ≡ spelling names t
first_text ts names root t out first second all a b c d e = rw (a, d, c, b, e) (sym (spelling_is names t))

pub first_valid : (n : ℕ) (root : TypeId) (first second all : List Piece) → first ≡ [] → second ≡ first ++ p.Behind root ∷ [] → all ≡ second ++ p.Outer root i.Nothing ∷ [] → root.0 < n → ArePieces n all
first_valid n root first second all b c d l = rw (d, c, b) (l, (l, tt))
