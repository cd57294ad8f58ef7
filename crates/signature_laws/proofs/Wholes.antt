-- In a type's spelling the brackets match, its commas stand inside of them, and a star stands where the type has a pointer.
use Rattle.std.proofs.Common.{◌≡◌, ℕ, zero, suc, ◌+◌, ◌/◌, ◌%◌, nat_lt, List, [], ◌∷◌, ◌++◌, Bool, true, false, not, ◌&&◌, ◌||◌, ◌==◌, if◌then◌else◌, codes, bit_or, refl, sym, ◌∙◌, ap, ap₂, subst, arith, append_assoc}
use Rattle.std.proofs.lemmas.Bool.{and_from, or_left, or_right, not_from_false, ne_eqb}
use Rattle.c_core.specs.Signatures.{has_star}
use Rattle.c_types.specs.CTypes.{CType, CTypes, Void, Int, Enum, Pointer, Array, Flexible, Function, Record, Named, Qualified, no_types, one_type}
use Rattle.c_types.specs.Spelling.{Names, int_name, digits_before, decimal, spaced, base_qualifiers, pointer_qualifiers, star, is_suffixed, enclosed, base, spelled, spelled_parameters, spelled_more}
use Rattle.c_types.specs.Pieces.{begins, gap}
use Rattle.c_types.proofs.Piecing.{spaced_is}
use Rattle.signature_laws.specs.Named.{AreNamed, AllNamed}
use Rattle.signature_laws.specs.Told.{has_pointer, have_pointer}
use Rattle.signature_laws.proofs.Texts.{all, is_plain, star_append, star_plain, IsWhole, IsListed, listed_whole, whole_append, listed_append, whole_nil, whole_plain, whole_enclosed, listed_comma}
use Rattle.signature_laws.proofs.Names.{IsBase, void_base, int_is, spelled_other}
use Rattle.signature_laws.proofs.Fronts.{qualifiers_plain, pointer_plain, gap_plain}

-- ---- digits

digit_plain : (n : ℕ) → is_plain (48 + n) ≡ true
digit_plain n =
    and_from (not (48 + n == 40)) (not (48 + n == 41) && (not (48 + n == 42) && not (48 + n == 44))) (not_from_false (48 + n == 40) (ne_eqb (48 + n) 40 (λ e. omega (arith, e))))
    (and_from (not (48 + n == 41)) (not (48 + n == 42) && not (48 + n == 44)) (not_from_false (48 + n == 41) (ne_eqb (48 + n) 41 (λ e. omega (arith, e))))
    (and_from (not (48 + n == 42)) (not (48 + n == 44)) (not_from_false (48 + n == 42) (ne_eqb (48 + n) 42 (λ e. omega (arith, e)))) (not_from_false (48 + n == 44) (ne_eqb (48 + n) 44 (λ e. omega (arith, e))))))

digits_by : (b : Bool) (n : ℕ) (x d : List ℕ) → all is_plain x ≡ true → all is_plain d ≡ true → all is_plain (if b then ((48 + n) ∷ d) else x) ≡ true
digits_by true n x d h k = and_from (is_plain (48 + n)) (all is_plain d) (digit_plain n) k
digits_by false n x d h k = h

digits_plain : (most n : ℕ) (d : List ℕ) → all is_plain d ≡ true → all is_plain (digits_before most n d) ≡ true
digits_plain zero n d h = h
digits_plain (suc most) n d h =
    let last : List ℕ = (48 + n % 10) ∷ d in
    digits_by (nat_lt n 10) n (digits_before most (n / 10) last) d
    (digits_plain most (n / 10) last (and_from (is_plain (48 + n % 10)) (all is_plain d) (digit_plain (n % 10)) h)) h

pub length_plain : (n : ℕ) → all is_plain (91 ∷ decimal n) ≡ true
length_plain n = digits_plain 10 n [] refl

-- ---- brackets and commas

whole_star_char : IsWhole (42 ∷ [])
whole_star_char = record { inside_is = λ depth text. refl; pieces_are = λ depth text. refl }

whole_spaced : (d : List ℕ) → IsWhole d → IsWhole (spaced d)
whole_spaced d w = subst IsWhole (sym (spaced_is d)) (whole_append (gap (begins d)) d (whole_plain (gap (begins d)) (gap_plain (begins d))) w)

whole_base : (q : ℕ) (name d : List ℕ) → IsBase name → IsWhole d → IsWhole (base q name d)
whole_base q name d b w =
    whole_append (base_qualifiers q ++ name) (spaced d) (whole_append (base_qualifiers q) name (whole_plain (base_qualifiers q) (qualifiers_plain q)) b.whole) (whole_spaced d w)

whole_star_by : (b : Bool) (q : ℕ) (d : List ℕ) → IsWhole d → IsWhole (if b then (42 ∷ d) else ((42 ∷ pointer_qualifiers q) ++ spaced d))
whole_star_by true q d w = whole_append (42 ∷ []) d whole_star_char w
whole_star_by false q d w =
    whole_append (42 ∷ []) (pointer_qualifiers q ++ spaced d) whole_star_char
    (whole_append (pointer_qualifiers q) (spaced d) (whole_plain (pointer_qualifiers q) (pointer_plain q)) (whole_spaced d w))

whole_enclosed_by : (b : Bool) (e : List ℕ) → IsWhole e → IsWhole (if b then ((40 ∷ e) ++ 41 ∷ []) else e)
whole_enclosed_by true e w = whole_enclosed e (listed_whole e w)
whole_enclosed_by false e w = w

mutual
  pub whole_spelled : (names : Names) (q : ℕ) (t : CType) (d : List ℕ) → AreNamed names t → IsWhole d → IsWhole (spelled names q t d)
  whole_spelled names q Void d h w = whole_base q (codes "void") d void_base w
  whole_spelled names q (Int kind) d h w = let i = int_is kind in whole_base q (int_name kind) d i.base w
  whole_spelled names q (Enum e) d h w = let o = spelled_other (names.enums e) h in whole_base q (names.enums e) d o.base w
  whole_spelled names q (Record r) d h w = let o = spelled_other (names.records r) h in whole_base q (names.records r) d o.base w
  whole_spelled names q (Pointer t) d h w = whole_spelled names 0 t (enclosed t (star q d)) h (whole_enclosed_by (is_suffixed t) (star q d) (whole_star_by (q == 0) q d w))
  whole_spelled names q (Array t n) d h w =
      whole_spelled names q t ((d ++ 91 ∷ decimal n) ++ 93 ∷ []) h
      (whole_append (d ++ 91 ∷ decimal n) (93 ∷ []) (whole_append d (91 ∷ decimal n) w (whole_plain (91 ∷ decimal n) (length_plain n))) (whole_plain (93 ∷ []) refl))
  whole_spelled names q (Flexible t) d h w = whole_spelled names q t (d ++ 91 ∷ 93 ∷ []) h (whole_append d (91 ∷ 93 ∷ []) w (whole_plain (91 ∷ 93 ∷ []) refl))
  whole_spelled names q (Function r ps) d h w =
      let x : List ℕ = spelled_parameters names ps in
      whole_spelled names 0 r ((d ++ 40 ∷ x) ++ 41 ∷ []) h.0
      (subst IsWhole (sym (append_assoc d (40 ∷ x) (41 ∷ []))) (whole_append d (40 ∷ (x ++ 41 ∷ [])) w (whole_enclosed x (listed_parameters names ps h.1))))
  whole_spelled names q (Named n t) d h w = whole_spelled names q t d h w
  whole_spelled names q (Qualified p t) d h w = whole_spelled names (bit_or q p) t d h w

  pub listed_parameters : (names : Names) (ps : CTypes) → AllNamed names ps → IsListed (spelled_parameters names ps)
  listed_parameters names no_types h = listed_whole (codes "void") (whole_plain (codes "void") refl)
  listed_parameters names (one_type p ps) h =
      let x : List ℕ = spelled names 0 p [] in
      listed_append x (spelled_more names ps) (listed_whole x (whole_spelled names 0 p [] h.0 whole_nil)) (listed_more names ps h.1)

  listed_more : (names : Names) (ps : CTypes) → AllNamed names ps → IsListed (spelled_more names ps)
  listed_more names no_types h = listed_whole [] whole_nil
  listed_more names (one_type p ps) h =
      let x : List ℕ = spelled names 0 p [] in
      listed_append (codes ", " ++ x) (spelled_more names ps)
      (listed_append (codes ", ") x (listed_append (44 ∷ []) (32 ∷ []) listed_comma (listed_whole (32 ∷ []) (whole_plain (32 ∷ []) refl))) (listed_whole x (whole_spelled names 0 p [] h.0 whole_nil)))
      (listed_more names ps h.1)

-- ---- stars

or_none : (b : Bool) → (b || false) ≡ b
or_none true = refl
or_none false = refl

or_moved : (a d p : Bool) → (a || (d || p)) ≡ ((a || p) || d)
or_moved true d p = refl
or_moved false true true = refl
or_moved false true false = refl
or_moved false false p = sym (or_none p)

star_skipped : (x y : List ℕ) → has_star x ≡ false → has_star (x ++ y) ≡ has_star y
star_skipped x y e = star_append x y ∙ ap (λ (b : Bool). b || has_star y) e

star_kept : (x y : List ℕ) → has_star y ≡ false → has_star (x ++ y) ≡ has_star x
star_kept x y e = star_append x y ∙ ap (λ (b : Bool). has_star x || b) e ∙ or_none (has_star x)

star_spaced : (d : List ℕ) → has_star (spaced d) ≡ has_star d
star_spaced d = ap has_star (spaced_is d) ∙ star_skipped (gap (begins d)) d (star_plain (gap (begins d)) (gap_plain (begins d)))

star_base : (q : ℕ) (name d : List ℕ) → IsBase name → has_star (base q name d) ≡ has_star d
star_base q name d b =
    star_skipped (base_qualifiers q ++ name) (spaced d) (star_skipped (base_qualifiers q) name (star_plain (base_qualifiers q) (qualifiers_plain q)) ∙ b.starless)
    ∙ star_spaced d

star_first : (b : Bool) (q : ℕ) (d : List ℕ) → has_star (if b then (42 ∷ d) else ((42 ∷ pointer_qualifiers q) ++ spaced d)) ≡ true
star_first true q d = refl
star_first false q d = refl

star_enclosed : (b : Bool) (e : List ℕ) → has_star e ≡ true → has_star (if b then ((40 ∷ e) ++ 41 ∷ []) else e) ≡ true
star_enclosed true e h = star_append e (41 ∷ []) ∙ or_left (has_star e) false h
star_enclosed false e h = h

mutual
  pub star_spelled : (names : Names) (q : ℕ) (t : CType) (d : List ℕ) → AreNamed names t → has_star (spelled names q t d) ≡ (has_pointer t || has_star d)
  star_spelled names q Void d h = star_base q (codes "void") d void_base
  star_spelled names q (Int kind) d h = let i = int_is kind in star_base q (int_name kind) d i.base
  star_spelled names q (Enum e) d h = let o = spelled_other (names.enums e) h in star_base q (names.enums e) d o.base
  star_spelled names q (Record r) d h = let o = spelled_other (names.records r) h in star_base q (names.records r) d o.base
  star_spelled names q (Pointer t) d h =
      let e : List ℕ = enclosed t (star q d) in
      star_spelled names 0 t e h ∙ or_right (has_pointer t) (has_star e) (star_enclosed (is_suffixed t) (star q d) (star_first (q == 0) q d))
  star_spelled names q (Array t n) d h =
      star_spelled names q t ((d ++ 91 ∷ decimal n) ++ 93 ∷ []) h
      ∙ ap (λ (b : Bool). has_pointer t || b) (star_kept (d ++ 91 ∷ decimal n) (93 ∷ []) refl ∙ star_kept d (91 ∷ decimal n) (star_plain (91 ∷ decimal n) (length_plain n)))
  star_spelled names q (Flexible t) d h = star_spelled names q t (d ++ 91 ∷ 93 ∷ []) h ∙ ap (λ (b : Bool). has_pointer t || b) (star_kept d (91 ∷ 93 ∷ []) refl)
  star_spelled names q (Function r ps) d h =
      let x : List ℕ = spelled_parameters names ps in
      star_spelled names 0 r ((d ++ 40 ∷ x) ++ 41 ∷ []) h.0
      ∙ ap (λ (b : Bool). has_pointer r || b) (star_kept (d ++ 40 ∷ x) (41 ∷ []) refl ∙ star_append d (40 ∷ x) ∙ ap (λ (b : Bool). has_star d || b) (star_parameters names ps h.1))
      ∙ or_moved (has_pointer r) (has_star d) (have_pointer ps)
  star_spelled names q (Named n t) d h = star_spelled names q t d h
  star_spelled names q (Qualified p t) d h = star_spelled names (bit_or q p) t d h

  star_parameters : (names : Names) (ps : CTypes) → AllNamed names ps → has_star (spelled_parameters names ps) ≡ have_pointer ps
  star_parameters names no_types h = refl
  star_parameters names (one_type p ps) h =
      let x : List ℕ = spelled names 0 p [] in
      star_append x (spelled_more names ps) ∙ ap₂ (λ (a b : Bool). a || b) (star_spelled names 0 p [] h.0 ∙ or_none (has_pointer p)) (star_more names ps h.1)

  star_more : (names : Names) (ps : CTypes) → AllNamed names ps → has_star (spelled_more names ps) ≡ have_pointer ps
  star_more names no_types h = refl
  star_more names (one_type p ps) h =
      let x : List ℕ = spelled names 0 p [] in
      star_append (codes ", " ++ x) (spelled_more names ps) ∙ ap₂ (λ (a b : Bool). a || b) (star_spelled names 0 p [] h.0 ∙ or_none (has_pointer p)) (star_more names ps h.1)

-- a type's spelling by itself
pub star_alone : (names : Names) (t : CType) → AreNamed names t → has_star (spelled names 0 t []) ≡ has_pointer t
star_alone names t h = star_spelled names 0 t [] h ∙ or_none (has_pointer t)
