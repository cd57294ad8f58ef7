-- What is read of a function's parameters.
use Rattle.std.proofs.Common.{◌≡◌, ℕ, List, [], ◌∷◌, ◌++◌, map, Bool, true, false, not, ◌==◌, if◌then◌else◌, codes, bytes_eq, refl, sym, ◌∙◌, ap, ap₂, subst, append-nil}
use Rattle.std.proofs.lemmas.Bool.{not_from_true}
use Rattle.num_ops.specs.declared.kinds.IntKind.{IntKind}
use Rattle.num_ops.specs.declared.kinds.IntKind.TheVariants as k
use Rattle.c_core.specs.declared.values.Scalar.{Scalar}
use Rattle.c_core.specs.declared.values.Scalar.TheVariants as scalar
use Rattle.c_core.specs.Signatures.{integer_names, kind_in, has_star, scalar_named, without, cut, pieces, parameters_named}
use Rattle.c_types.specs.CTypes.{CType, CTypes, Void, Int, Enum, Pointer, Array, Flexible, Function, Record, Named, Qualified, no_types, one_type}
use Rattle.c_types.specs.Canonical.{canonical, canonical_parameters, qualify, unqualified}
use Rattle.c_types.specs.Spelling.{Names, int_name, decimal, spelled, spelled_parameters, spelled_more}
use Rattle.c_types.specs.Pieces.{before, behind}
use Rattle.c_types.specs.declared.pieces.Inside.TheVariants as i
use Rattle.c_types.proofs.Piecing.{parts}
use Rattle.signature_laws.specs.Named.{AreNamed, AllNamed}
use Rattle.signature_laws.specs.Told.{is_void, has_pointer, kind_told, parameter_told, parameters_told, is_only_void, takes_told}
use Rattle.signature_laws.proofs.Texts.{led, led_piece, IsWhole, whole_nil, has, has_middle, apart, each_passes, kind_apart, kept}
use Rattle.signature_laws.proofs.Names.{IsOther, int_is, spelled_other}
use Rattle.signature_laws.proofs.Canonical.{named_unqualified, named_canonical, all_canonical, pointer_unqualified, pointer_canonical}
use Rattle.signature_laws.proofs.Wholes.{whole_spelled, star_alone}
use Rattle.signature_laws.proofs.Heads.{no_blank}

-- ---- the spelling of a parameter

-- a text that is no name at all
record IsOdd (text : List ℕ) : Type 0 where
  kind : kind_in integer_names text ≡ k.Int
  not_void : bytes_eq text (codes "void") ≡ false

odd_by : (test : List ℕ → Bool) → each_passes (λ t. not (test t)) integer_names ≡ true → test (codes "void") ≡ false → (text : List ℕ) → test text ≡ true → IsOdd text
odd_by test e v text t = record {
  kind = kind_apart (λ w. not (test w)) integer_names text e (not_from_true (test text) t);
  not_void = apart test text (codes "void") t v;
}

odd_pointer : (names : Names) (t : CType) → AreNamed names t → IsOdd (spelled names 0 (Pointer t) [])
odd_pointer names t h = odd_by has_star refl refl (spelled names 0 (Pointer t) []) (star_alone names (Pointer t) h)

odd_array : (names : Names) (t : CType) (n : ℕ) → IsOdd (spelled names 0 (Array t n) [])
odd_array names t n =
    odd_by (has 91) refl refl (spelled names 0 (Array t n) [])
    (ap (has 91) (parts names 0 (Array t n) []) ∙ has_middle 91 (before names 0 (Array t n) i.Nothing) ((decimal n ++ 93 ∷ []) ++ behind names t) refl)

odd_flexible : (names : Names) (t : CType) → IsOdd (spelled names 0 (Flexible t) [])
odd_flexible names t =
    odd_by (has 91) refl refl (spelled names 0 (Flexible t) [])
    (ap (has 91) (parts names 0 (Flexible t) []) ∙ has_middle 91 (before names 0 (Flexible t) i.Nothing) (93 ∷ behind names t) refl)

odd_function : (names : Names) (r : CType) (ps : CTypes) → IsOdd (spelled names 0 (Function r ps) [])
odd_function names r ps =
    odd_by (has 40) refl refl (spelled names 0 (Function r ps) [])
    (ap (has 40) (parts names 0 (Function r ps) []) ∙ has_middle 40 (before names 0 (Function r ps) i.Nothing) (spelled_parameters names ps ++ (41 ∷ behind names r)) refl)

-- what is read of the text of a parameter of this type
record IsRead (p : CType) (text : List ℕ) : Type 0 where
  kind : kind_in integer_names text ≡ kind_told p
  void : bytes_eq text (codes "void") ≡ is_void p

read_odd : (p : CType) (text text' : List ℕ) → IsOdd text → IsOdd text' → IsRead p text → IsRead p text'
read_odd p text text' o o' r = record { kind = o'.kind ∙ sym o.kind ∙ r.kind; void = o'.not_void ∙ sym o.not_void ∙ r.void }

outer_by : (b : Bool) (q : ℕ) (t : CType) → unqualified t ≡ t → unqualified (if b then t else Qualified q t) ≡ t
outer_by true q t e = e
outer_by false q t e = refl

module _ (names : Names) where
  abbrev alone : CType → List ℕ
  alone t = spelled names 0 t []

  outer : (p : CType) (q : ℕ) (t : CType) → unqualified t ≡ t → IsRead p (alone t) → IsRead p (alone (unqualified (if (q == 0) then t else Qualified q t)))
  outer p q t e r = subst (λ (u : CType). IsRead p (alone u)) (sym (outer_by (q == 0) q t e)) r

  read_qualify : (p : CType) (q : ℕ) (t : CType) → IsRead p (alone (unqualified t)) → IsRead p (alone (unqualified (qualify q t)))
  read_qualify p q (Qualified o t) r = r
  read_qualify p q (Array t n) r = read_odd p (alone (Array t n)) (alone (Array (qualify q t) n)) (odd_array names t n) (odd_array names (qualify q t) n) r
  read_qualify p q (Flexible t) r = read_odd p (alone (Flexible t)) (alone (Flexible (qualify q t))) (odd_flexible names t) (odd_flexible names (qualify q t)) r
  read_qualify p q Void r = outer p q Void refl r
  read_qualify p q (Int kind) r = outer p q (Int kind) refl r
  read_qualify p q (Enum e) r = outer p q (Enum e) refl r
  read_qualify p q (Pointer t) r = outer p q (Pointer t) refl r
  read_qualify p q (Function t ps) r = outer p q (Function t ps) refl r
  read_qualify p q (Record n) r = outer p q (Record n) refl r
  read_qualify p q (Named n t) r = outer p q (Named n t) refl r

  of_odd : (p : CType) (text : List ℕ) → kind_told p ≡ k.Int → is_void p ≡ false → IsOdd text → IsRead p text
  of_odd p text e v o = record { kind = o.kind ∙ sym e; void = o.not_void ∙ sym v }

  of_other : (p : CType) (name : List ℕ) → kind_told p ≡ k.Int → is_void p ≡ false → IsOther name → IsRead p (name ++ [])
  of_other p name e v o = subst (IsRead p) (sym (append-nil name)) (record { kind = o.kind ∙ sym e; void = o.not_void ∙ sym v })

  read : (p : CType) → AreNamed names p → IsRead p (alone (unqualified (canonical p)))
  read Void h = record { kind = refl; void = refl }
  read (Int kind) h = let j = int_is kind in subst (IsRead (Int kind)) (sym (append-nil (int_name kind))) (record { kind = j.is; void = j.not_void })
  read (Enum e) h = of_other (Enum e) (names.enums e) refl refl (spelled_other (names.enums e) h)
  read (Record n) h = of_other (Record n) (names.records n) refl refl (spelled_other (names.records n) h)
  read (Pointer t) h = of_odd (Pointer t) (alone (Pointer (canonical t))) refl refl (odd_pointer names (canonical t) (named_canonical names t h))
  read (Array t n) h = of_odd (Array t n) (alone (Array (canonical t) n)) refl refl (odd_array names (canonical t) n)
  read (Flexible t) h = of_odd (Flexible t) (alone (Flexible (canonical t))) refl refl (odd_flexible names (canonical t))
  read (Function r ps) h = of_odd (Function r ps) (alone (Function (canonical r) (canonical_parameters ps))) refl refl (odd_function names (canonical r) (canonical_parameters ps))
  read (Named n t) h = let r = read t h in record { kind = r.kind; void = r.void }
  read (Qualified q t) h = let r = read_qualify t q (canonical t) (read t h) in record { kind = r.kind; void = r.void }

  named : (p : CType) → AreNamed names p → AreNamed names (unqualified (canonical p))
  named p h = named_unqualified names (canonical p) (named_canonical names p h)

  scalar_told : (p : CType) → AreNamed names p → scalar_named (alone (unqualified (canonical p))) ≡ parameter_told p
  scalar_told p h =
      let text : List ℕ = alone (unqualified (canonical p)) in
      let r : IsRead p text = read p h in
      ap (λ (b : Bool). if b then scalar.Ptr else scalar.Int (kind_in integer_names text)) (star_alone names (unqualified (canonical p)) (named p h) ∙ pointer_unqualified (canonical p) ∙ pointer_canonical p)
      ∙ ap (λ (j : IntKind). if has_pointer p then scalar.Ptr else scalar.Int j) r.kind

  -- ---- the pieces

  abbrev piece : List ℕ → Scalar
  piece text = scalar_named (without (codes " ") text)

  abbrev texts : CTypes → List (List ℕ)
  texts no_types = []
  texts (one_type p ps) = alone p ∷ texts ps

  pieces_first : (x more : List ℕ) (rest : List (List ℕ)) → IsWhole x → pieces 0 more ≡ [] ∷ rest → pieces 0 (x ++ more) ≡ x ∷ rest
  pieces_first x more rest w e = w.pieces_are 0 more ∙ ap (led x) e ∙ led_piece x [] rest ∙ ap (λ (t : List ℕ). t ∷ rest) (append-nil x)

  pieces_more : (ps : CTypes) → AllNamed names ps → pieces 0 (spelled_more names ps) ≡ [] ∷ map (λ t. 32 ∷ t) (texts ps)
  pieces_more no_types h = refl
  pieces_more (one_type p ps) h =
      ap (λ (e : List (List ℕ)). [] ∷ cut false 32 e)
      (pieces_first (alone p) (spelled_more names ps) (map (λ t. 32 ∷ t) (texts ps)) (whole_spelled names 0 p [] h.0 whole_nil) (pieces_more ps h.1))

  joined : (xs : List (List ℕ)) → map piece (map (λ t. 32 ∷ t) xs) ≡ map scalar_named xs
  joined [] = refl
  joined (x ∷ xs) = ap (λ (e : List Scalar). scalar_named x ∷ e) (joined xs)

  texts_told : (ps : CTypes) → AllNamed names ps → map scalar_named (texts (canonical_parameters ps)) ≡ parameters_told ps
  texts_told no_types h = refl
  texts_told (one_type p ps) h = ap₂ (λ (a : Scalar) (b : List Scalar). a ∷ b) (scalar_told p h.0) (texts_told ps h.1)

  pieces_told : (p : CType) (ps : CTypes) → AllNamed names (one_type p ps) → map piece (pieces 0 (spelled_parameters names (canonical_parameters (one_type p ps)))) ≡ parameters_told (one_type p ps)
  pieces_told p ps h =
      let u : CType = unqualified (canonical p) in
      let us : CTypes = canonical_parameters ps in
      ap (map piece) (pieces_first (alone u) (spelled_more names us) (map (λ t. 32 ∷ t) (texts us)) (whole_spelled names 0 u [] (named p h.0) whole_nil) (pieces_more us (all_canonical names ps h.1)))
      ∙ ap₂ (λ (a : Scalar) (b : List Scalar). a ∷ b) (ap scalar_named (kept (codes " ") (alone u) (no_blank names u (named p h.0))) ∙ scalar_told p h.0) (joined (texts us) ∙ texts_told ps h.1)

  only_void : (p : CType) (ps : CTypes) → AllNamed names (one_type p ps) → bytes_eq (spelled_parameters names (canonical_parameters (one_type p ps))) (codes "void") ≡ is_only_void (one_type p ps)
  only_void p no_types h =
      let r = read p h.0 in
      ap (λ (t : List ℕ). bytes_eq t (codes "void")) (append-nil (alone (unqualified (canonical p)))) ∙ r.void
  only_void p (one_type q qs) h =
      let x : List ℕ = alone (unqualified (canonical p)) in
      let rest : List ℕ = 32 ∷ (alone (unqualified (canonical q)) ++ spelled_more names (canonical_parameters qs)) in
      apart (has 44) (x ++ 44 ∷ rest) (codes "void") (has_middle 44 x rest refl) refl

  pub parameters_are : (ps : CTypes) → AllNamed names ps → parameters_named (spelled_parameters names (canonical_parameters ps)) ≡ takes_told ps
  parameters_are no_types h = refl
  parameters_are (one_type p ps) h =
      let text : List ℕ = spelled_parameters names (canonical_parameters (one_type p ps)) in
      ap (λ (b : Bool). if b then [] else map piece (pieces 0 text)) (only_void p ps h)
      ∙ ap (λ (l : List Scalar). if is_only_void (one_type p ps) then [] else l) (pieces_told p ps h)
