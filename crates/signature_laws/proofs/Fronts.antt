-- What stands before the text inside a type: no bracket in it opens the function's own parameters, and it tells the result.
use Rattle.std.proofs.Common.{◌≡◌, ℕ, suc, ◌+◌, List, [], ◌∷◌, ◌++◌, length, drop, Bool, true, false, ◌==◌, if◌then◌else◌, codes, bytes_eq, bit_or, Option, Some, None, refl, ◌∙◌, ap, arith, append-nil}
use Rattle.std.proofs.lemmas.Bool.{and_from, or_from, or_right}
use Rattle.num_ops.specs.declared.kinds.IntKind.{IntKind}
use Rattle.c_core.specs.declared.values.Scalar.{Scalar}
use Rattle.c_core.specs.declared.values.Scalar.TheVariants as scalar
use Rattle.c_core.specs.Signatures.{Signature, signature, integer_names, kind_in, has_star, starts, without, opens_parameters, front, result_name, result_named, inside, parameters_named, scalar_named}
use Rattle.c_types.specs.CTypes.{CType, Void, Int, Enum, Pointer, Array, Flexible, Function, Record, Named, Qualified}
use Rattle.c_types.specs.Spelling.{Names, int_name, has_qualifier, base_qualifiers, pointer_qualifiers, joined_if, is_suffixed}
use Rattle.c_types.specs.Pieces.{gap, opened, starred, star_text, base_text, before}
use Rattle.c_types.specs.declared.pieces.Inside.{Inside}
use Rattle.c_types.specs.declared.pieces.Inside.TheVariants as i
use Rattle.signature_laws.specs.Named.{AreNamed}
use Rattle.signature_laws.specs.Told.{gives_told}
use Rattle.signature_laws.proofs.Texts as texts
use Rattle.signature_laws.proofs.Texts.{all, is_plain, Passed, passed_append, passed_plain, star_append, star_plain, IsListed, inside_ends, last_left, kept}
use Rattle.signature_laws.proofs.Names.{IsBase, void_base, int_is, spelled_other}

-- ---- qualifiers and blanks are plain

qualifiers_by : (a b : Bool) → all is_plain ((if a then codes "const " else []) ++ (if b then codes "volatile " else [])) ≡ true
qualifiers_by true true = refl
qualifiers_by true false = refl
qualifiers_by false true = refl
qualifiers_by false false = refl

pub qualifiers_plain : (q : ℕ) → all is_plain (base_qualifiers q) ≡ true
qualifiers_plain q = qualifiers_by (has_qualifier q 1) (has_qualifier q 2)

pointer_by : (a b c : Bool) → all is_plain (joined_if c (joined_if b (joined_if a [] (codes "const")) (codes "volatile")) (codes "restrict")) ≡ true
pointer_by true true true = refl
pointer_by true true false = refl
pointer_by true false true = refl
pointer_by true false false = refl
pointer_by false true true = refl
pointer_by false true false = refl
pointer_by false false true = refl
pointer_by false false false = refl

pub pointer_plain : (q : ℕ) → all is_plain (pointer_qualifiers q) ≡ true
pointer_plain q = pointer_by (has_qualifier q 1) (has_qualifier q 2) (has_qualifier q 4)

pub gap_plain : (n : Inside) → all is_plain (gap n) ≡ true
gap_plain i.Nothing = refl
gap_plain i.Bracket = refl
gap_plain i.Other = refl

pub all_append : (p : ℕ → Bool) (x y : List ℕ) → all p x ≡ true → all p y ≡ true → all p (x ++ y) ≡ true
all_append p [] y h k = k
all_append p (c ∷ x) y h k = let r = texts.all_parts p c x h in and_from (p c) (all p (x ++ y)) r.0 (all_append p x y r.1 k)

starred_by : (b : Bool) (q : ℕ) (n : Inside) → all is_plain (if b then [] else (pointer_qualifiers q ++ gap n)) ≡ true
starred_by true q n = refl
starred_by false q n = all_append is_plain (pointer_qualifiers q) (gap n) (pointer_plain q) (gap_plain n)

-- ---- brackets

passed_base : (q : ℕ) (name : List ℕ) (n : Inside) → IsBase name → Passed (base_text q name n)
passed_base q name n b =
    passed_append (base_qualifiers q ++ name) (gap n)
    (passed_append (base_qualifiers q) name (passed_plain (base_qualifiers q) (qualifiers_plain q)) b.passed)
    (passed_plain (gap n) (gap_plain n))

passed_star : (b : Bool) (s : List ℕ) → Passed s → Passed (opened b ++ (42 ∷ s))
passed_star true s p text = ap (λ (e : List ℕ). 40 ∷ 42 ∷ e) (p text)
passed_star false s p text = ap (λ (e : List ℕ). 42 ∷ e) (p text)

pub before_passed : (names : Names) (q : ℕ) (t : CType) (n : Inside) → AreNamed names t → Passed (before names q t n)
before_passed names q Void n h = passed_base q (codes "void") n void_base
before_passed names q (Int kind) n h = let k = int_is kind in passed_base q (int_name kind) n k.base
before_passed names q (Enum e) n h = let o = spelled_other (names.enums e) h in passed_base q (names.enums e) n o.base
before_passed names q (Record r) n h = let o = spelled_other (names.records r) h in passed_base q (names.records r) n o.base
before_passed names q (Pointer t) n h =
    passed_append (before names 0 t i.Other) (star_text q n (is_suffixed t)) (before_passed names 0 t i.Other h)
    (passed_star (is_suffixed t) (starred q n) (passed_plain (starred q n) (starred_by (q == 0) q n)))
before_passed names q (Array t m) n h = before_passed names q t _ h
before_passed names q (Flexible t) n h = before_passed names q t _ h
before_passed names q (Function r ps) n h = before_passed names 0 r _ h.0
before_passed names q (Named s t) n h = before_passed names q t n h
before_passed names q (Qualified p t) n h = before_passed names (bit_or q p) t n h

-- ---- the result

unqualified_by : (a b : Bool) (name : List ℕ) → starts (codes "const ") name ≡ false → starts (codes "volatile ") name ≡ false
    → without (codes "volatile ") (without (codes "const ") (((if a then codes "const " else []) ++ (if b then codes "volatile " else [])) ++ name)) ≡ name
unqualified_by true true name c v = refl
unqualified_by true false name c v = kept (codes "volatile ") name v
unqualified_by false true name c v = refl
unqualified_by false false name c v = ap (without (codes "volatile ")) (kept (codes "const ") name c) ∙ kept (codes "volatile ") name v

result_is : (q : ℕ) (name : List ℕ) → IsBase name → result_name (base_text q name i.Other) ≡ name
result_is q name b =
    ap (λ (x : List ℕ). without (codes "volatile ") (without (codes "const ") x)) (last_left (base_qualifiers q ++ name) 32)
    ∙ unqualified_by (has_qualifier q 1) (has_qualifier q 2) name b.no_const b.no_volatile

no_star : (q : ℕ) (name : List ℕ) → IsBase name → has_star (base_text q name i.Other) ≡ false
no_star q name b =
    star_append (base_qualifiers q ++ name) (gap i.Other)
    ∙ or_from (has_star (base_qualifiers q ++ name)) false
    (star_append (base_qualifiers q) name ∙ or_from (has_star (base_qualifiers q)) (has_star name) (star_plain (base_qualifiers q) (qualifiers_plain q)) b.starless) refl

abbrev named_by : (void : Bool) (star : Bool) → IntKind → Option Scalar
named_by void star kind = if void then None else Some (if star then scalar.Ptr else scalar.Int kind)

result_base : (q : ℕ) (name : List ℕ) → IsBase name → result_named (base_text q name i.Other) ≡ named_by (bytes_eq name (codes "void")) false (kind_in integer_names name)
result_base q name b =
    let text : List ℕ = base_text q name i.Other in
    ap (λ (s : Bool). if s then Some scalar.Ptr else (if bytes_eq (result_name text) (codes "void") then None else Some (scalar_named (result_name text)))) (no_star q name b)
    ∙ ap (λ (x : List ℕ). if bytes_eq x (codes "void") then None else Some (scalar_named x)) (result_is q name b)
    ∙ ap (λ (s : Bool). named_by (bytes_eq name (codes "void")) s (kind_in integer_names name)) b.starless

result_kind : (q : ℕ) (name : List ℕ) (kind : IntKind) → IsBase name → bytes_eq name (codes "void") ≡ false → kind_in integer_names name ≡ kind → result_named (base_text q name i.Other) ≡ Some (scalar.Int kind)
result_kind q name kind b v e =
    result_base q name b ∙ ap (λ (s : Bool). named_by s false (kind_in integer_names name)) v ∙ ap (λ (j : IntKind). Some (scalar.Int j)) e

starred_result : (text : List ℕ) → has_star text ≡ true → result_named text ≡ Some scalar.Ptr
starred_result text e = ap (λ (s : Bool). if s then Some scalar.Ptr else (if bytes_eq (result_name text) (codes "void") then None else Some (scalar_named (result_name text)))) e

star_stands : (b : Bool) (s : List ℕ) → has_star (opened b ++ (42 ∷ s)) ≡ true
star_stands true s = refl
star_stands false s = refl

pub result_before : (names : Names) (q : ℕ) (t : CType) → AreNamed names t → result_named (before names q t i.Other) ≡ gives_told t
result_before names q Void h = result_base q (codes "void") void_base
result_before names q (Int kind) h = let k = int_is kind in result_kind q (int_name kind) kind k.base k.not_void k.is
result_before names q (Enum e) h = let o = spelled_other (names.enums e) h in result_kind q (names.enums e) _ o.base o.not_void o.kind
result_before names q (Record r) h = let o = spelled_other (names.records r) h in result_kind q (names.records r) _ o.base o.not_void o.kind
result_before names q (Pointer t) h =
    let x : List ℕ = before names 0 t i.Other in
    let y : List ℕ = star_text q i.Other (is_suffixed t) in
    starred_result (x ++ y) (star_append x y ∙ or_right (has_star x) (has_star y) (star_stands (is_suffixed t) (starred q i.Other)))
result_before names q (Array t n) h = result_before names q t h
result_before names q (Flexible t) h = result_before names q t h
result_before names q (Function r ps) h = result_before names 0 r h.0
result_before names q (Named n t) h = result_before names q t h
result_before names q (Qualified p t) h = result_before names (bit_or q p) t h

-- ---- a text with the function's own bracket

abbrev made : List Scalar → Option Scalar → Signature
made takes gives = record { takes = takes; gives = gives }

dropped : (x : List ℕ) (c : ℕ) (text : List ℕ) → drop (length x + 1) (x ++ c ∷ text) ≡ text
dropped [] c text = refl
dropped (b ∷ x) c text =
    let e : length (b ∷ x) + 1 ≡ suc (length x + 1) = omega arith in
    ap (λ (n : ℕ). drop n (b ∷ (x ++ c ∷ text))) e ∙ dropped x c text

pub signature_is : (x params rest : List ℕ) → Passed x → opens_parameters 40 (params ++ 41 ∷ rest) ≡ true → IsListed params
    → signature (x ++ 40 ∷ (params ++ 41 ∷ rest)) ≡ made (parameters_named params) (result_named x)
signature_is x params rest p o l =
    let text : List ℕ = x ++ 40 ∷ (params ++ 41 ∷ rest) in
    let first : front text ≡ x = p (40 ∷ (params ++ 41 ∷ rest)) ∙ ap (λ (e : List ℕ). x ++ e) (texts.opened (params ++ 41 ∷ rest) o) ∙ append-nil x in
    let within : inside 0 (drop (length x + 1) text) ≡ params = ap (inside 0) (dropped x 40 (params ++ 41 ∷ rest)) ∙ inside_ends params rest l in
    ap (λ (f : List ℕ). made (parameters_named (inside 0 (drop (length f + 1) text))) (result_named f)) first
    ∙ ap (λ (t : List ℕ). made (parameters_named t) (result_named x)) within
