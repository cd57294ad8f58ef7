-- How a type's spelling begins: a bracket before it opens the function's own parameters.
use Rattle.std.proofs.Common.{◌≡◌, ℕ, List, [], ◌∷◌, ◌++◌, Bool, true, false, codes, if◌then◌else◌, bit_or, refl, sym, ◌∙◌, ap, subst, append_assoc, append-nil}
use Rattle.c_core.specs.Signatures.{opens_parameters, starts}
use Rattle.c_types.specs.CTypes.{CType, CTypes, Void, Int, Enum, Pointer, Array, Flexible, Function, Record, Named, Qualified, no_types, one_type}
use Rattle.c_types.specs.Spelling.{Names, int_name, has_qualifier, base_qualifiers, is_suffixed, spelled, spelled_parameters, spelled_more}
use Rattle.c_types.specs.Pieces.{gap, opened, closed, starred, star_text, base_text, before, behind}
use Rattle.c_types.specs.declared.pieces.Inside.{Inside}
use Rattle.c_types.specs.declared.pieces.Inside.TheVariants as i
use Rattle.c_types.proofs.Piecing.{parts}
use Rattle.signature_laws.specs.Named.{AreNamed, AllNamed}
use Rattle.signature_laws.proofs.Texts.{clear}
use Rattle.signature_laws.proofs.Names.{IsHead, IsBase, void_base, int_is, spelled_other}

head_by : (a b : Bool) (text : List ℕ) → IsHead text → IsHead (((if a then codes "const " else []) ++ (if b then codes "volatile " else [])) ++ text)
head_by true true text h = record { opens = refl; no_blank = refl }
head_by true false text h = record { opens = refl; no_blank = refl }
head_by false true text h = record { opens = refl; no_blank = refl }
head_by false false text h = h

clear_gap : (n : Inside) (text : List ℕ) → clear text ≡ true → clear (gap n ++ text) ≡ true
clear_gap i.Nothing text t = t
clear_gap i.Bracket text t = t
clear_gap i.Other text t = t

head_base : (q : ℕ) (name : List ℕ) (n : Inside) (text : List ℕ) → IsBase name → clear text ≡ true → IsHead (base_text q name n ++ text)
head_base q name n text b t =
    let same : base_text q name n ++ text ≡ base_qualifiers q ++ (name ++ (gap n ++ text)) =
    append_assoc (base_qualifiers q ++ name) (gap n) text ∙ append_assoc (base_qualifiers q) name (gap n ++ text) in
    subst IsHead (sym same) (head_by (has_qualifier q 1) (has_qualifier q 2) (name ++ (gap n ++ text)) (b.heads (gap n ++ text) (clear_gap n text t)))

clear_star : (b : Bool) (s text : List ℕ) → clear ((opened b ++ (42 ∷ s)) ++ text) ≡ true
clear_star true s text = refl
clear_star false s text = refl

head_before : (names : Names) (q : ℕ) (t : CType) (n : Inside) (text : List ℕ) → AreNamed names t → clear text ≡ true → IsHead (before names q t n ++ text)
head_before names q Void n text h c = head_base q (codes "void") n text void_base c
head_before names q (Int kind) n text h c = let k = int_is kind in head_base q (int_name kind) n text k.base c
head_before names q (Enum e) n text h c = let o = spelled_other (names.enums e) h in head_base q (names.enums e) n text o.base c
head_before names q (Record r) n text h c = let o = spelled_other (names.records r) h in head_base q (names.records r) n text o.base c
head_before names q (Pointer t) n text h c =
    let s : List ℕ = star_text q n (is_suffixed t) in
    subst IsHead (sym (append_assoc (before names 0 t i.Other) s text)) (head_before names 0 t i.Other (s ++ text) h (clear_star (is_suffixed t) (starred q n) text))
head_before names q (Array t m) n text h c = head_before names q t _ text h c
head_before names q (Flexible t) n text h c = head_before names q t _ text h c
head_before names q (Function r ps) n text h c = head_before names 0 r _ text h.0 c
head_before names q (Named s t) n text h c = head_before names q t n text h c
head_before names q (Qualified p t) n text h c = head_before names (bit_or q p) t n text h c

clear_closed : (b : Bool) (x text : List ℕ) → clear (x ++ text) ≡ true → clear ((closed b ++ x) ++ text) ≡ true
clear_closed true x text c = refl
clear_closed false x text c = c

clear_behind : (names : Names) (t : CType) (text : List ℕ) → clear text ≡ true → clear (behind names t ++ text) ≡ true
clear_behind names Void text c = c
clear_behind names (Int kind) text c = c
clear_behind names (Enum e) text c = c
clear_behind names (Record r) text c = c
clear_behind names (Pointer t) text c = clear_closed (is_suffixed t) (behind names t) text (clear_behind names t text c)
clear_behind names (Array t n) text c = refl
clear_behind names (Flexible t) text c = refl
clear_behind names (Function r ps) text c = refl
clear_behind names (Named s t) text c = clear_behind names t text c
clear_behind names (Qualified p t) text c = clear_behind names t text c

pub head_spelled : (names : Names) (t : CType) (text : List ℕ) → AreNamed names t → clear text ≡ true → IsHead (spelled names 0 t [] ++ text)
head_spelled names t text h c =
    let x : List ℕ = before names 0 t i.Nothing in
    let same : spelled names 0 t [] ++ text ≡ x ++ (behind names t ++ text) = ap (λ (e : List ℕ). e ++ text) (parts names 0 t []) ∙ append_assoc x (behind names t) text in
    subst IsHead (sym same) (head_before names 0 t i.Nothing (behind names t ++ text) h (clear_behind names t text c))

-- a type's spelling does not begin with a blank
pub no_blank : (names : Names) (t : CType) → AreNamed names t → starts (codes " ") (spelled names 0 t []) ≡ false
no_blank names t h =
    let head : IsHead (spelled names 0 t [] ++ []) = head_spelled names t [] h refl in
    ap (starts (codes " ")) (sym (append-nil (spelled names 0 t []))) ∙ head.no_blank

clear_more : (names : Names) (ps : CTypes) (rest : List ℕ) → clear (spelled_more names ps ++ 41 ∷ rest) ≡ true
clear_more names no_types rest = refl
clear_more names (one_type p ps) rest = refl

pub parameters_open : (names : Names) (ps : CTypes) (rest : List ℕ) → AllNamed names ps → opens_parameters 40 (spelled_parameters names ps ++ 41 ∷ rest) ≡ true
parameters_open names no_types rest h = refl
parameters_open names (one_type p ps) rest h =
    let x : List ℕ = spelled names 0 p [] in
    let more : List ℕ = spelled_more names ps in
    let head : IsHead (x ++ (more ++ 41 ∷ rest)) = head_spelled names p (more ++ 41 ∷ rest) h.0 (clear_more names ps rest) in
    ap (opens_parameters 40) (append_assoc x more (41 ∷ rest)) ∙ head.opens
