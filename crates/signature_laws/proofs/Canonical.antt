-- What a canonical type has of its type.
use Rattle.std.proofs.Common.{◌≡◌, ℕ, Bool, true, false, ◌||◌, ◌==◌, if◌then◌else◌, refl, ◌∙◌, ap, ap₂}
use Rattle.c_types.specs.CTypes.{CType, CTypes, Void, Int, Enum, Pointer, Array, Flexible, Function, Record, Named, Qualified, no_types, one_type}
use Rattle.c_types.specs.Canonical.{canonical, canonical_parameters, qualify, unqualified}
use Rattle.c_types.specs.Spelling.{Names, stripped}
use Rattle.c_types.proofs.Qualifying.{qualify_same}
use Rattle.signature_laws.specs.Named.{AreNamed, AllNamed}
use Rattle.signature_laws.specs.Told.{has_pointer, have_pointer, gives_told}

-- ---- names

named_with : (names : Names) (b : Bool) (q : ℕ) (t : CType) → AreNamed names t → AreNamed names (if b then t else Qualified q t)
named_with names true q t h = h
named_with names false q t h = h

named_qualify : (names : Names) (q : ℕ) (t : CType) → AreNamed names t → AreNamed names (qualify q t)
named_qualify names q (Qualified p t) h = h
named_qualify names q (Array t n) h = named_qualify names q t h
named_qualify names q (Flexible t) h = named_qualify names q t h
named_qualify names q Void h = named_with names (q == 0) q Void h
named_qualify names q (Int kind) h = named_with names (q == 0) q (Int kind) h
named_qualify names q (Enum e) h = named_with names (q == 0) q (Enum e) h
named_qualify names q (Pointer t) h = named_with names (q == 0) q (Pointer t) h
named_qualify names q (Function r ps) h = named_with names (q == 0) q (Function r ps) h
named_qualify names q (Record n) h = named_with names (q == 0) q (Record n) h
named_qualify names q (Named n t) h = named_with names (q == 0) q (Named n t) h

pub named_unqualified : (names : Names) (t : CType) → AreNamed names t → AreNamed names (unqualified t)
named_unqualified names (Qualified q t) h = h
named_unqualified names Void h = h
named_unqualified names (Int kind) h = h
named_unqualified names (Enum e) h = h
named_unqualified names (Pointer t) h = h
named_unqualified names (Array t n) h = h
named_unqualified names (Flexible t) h = h
named_unqualified names (Function r ps) h = h
named_unqualified names (Record n) h = h
named_unqualified names (Named n t) h = h

mutual
  pub named_canonical : (names : Names) (t : CType) → AreNamed names t → AreNamed names (canonical t)
  named_canonical names Void h = h
  named_canonical names (Int kind) h = h
  named_canonical names (Enum e) h = h
  named_canonical names (Pointer t) h = named_canonical names t h
  named_canonical names (Array t n) h = named_canonical names t h
  named_canonical names (Flexible t) h = named_canonical names t h
  named_canonical names (Function r ps) h = (named_canonical names r h.0, all_canonical names ps h.1)
  named_canonical names (Record n) h = h
  named_canonical names (Named n t) h = named_canonical names t h
  named_canonical names (Qualified q t) h = named_qualify names q (canonical t) (named_canonical names t h)

  pub all_canonical : (names : Names) (ps : CTypes) → AllNamed names ps → AllNamed names (canonical_parameters ps)
  all_canonical names no_types h = h
  all_canonical names (one_type p ps) h = (named_unqualified names (canonical p) (named_canonical names p h.0), all_canonical names ps h.1)

-- ---- pointers

pointer_qualify : (q : ℕ) (t : CType) → has_pointer (qualify q t) ≡ has_pointer t
pointer_qualify = qualify_same has_pointer (λ q t. refl) (λ t u n e. e) (λ t u e. e)

pub pointer_unqualified : (t : CType) → has_pointer (unqualified t) ≡ has_pointer t
pointer_unqualified (Qualified q t) = refl
pointer_unqualified Void = refl
pointer_unqualified (Int kind) = refl
pointer_unqualified (Enum e) = refl
pointer_unqualified (Pointer t) = refl
pointer_unqualified (Array t n) = refl
pointer_unqualified (Flexible t) = refl
pointer_unqualified (Function r ps) = refl
pointer_unqualified (Record n) = refl
pointer_unqualified (Named n t) = refl

mutual
  pub pointer_canonical : (t : CType) → has_pointer (canonical t) ≡ has_pointer t
  pointer_canonical Void = refl
  pointer_canonical (Int kind) = refl
  pointer_canonical (Enum e) = refl
  pointer_canonical (Pointer t) = refl
  pointer_canonical (Array t n) = pointer_canonical t
  pointer_canonical (Flexible t) = pointer_canonical t
  pointer_canonical (Function r ps) = ap₂ (λ (a b : Bool). a || b) (pointer_canonical r) (pointers_canonical ps)
  pointer_canonical (Record n) = refl
  pointer_canonical (Named n t) = pointer_canonical t
  pointer_canonical (Qualified q t) = pointer_qualify q (canonical t) ∙ pointer_canonical t

  pointers_canonical : (ps : CTypes) → have_pointer (canonical_parameters ps) ≡ have_pointer ps
  pointers_canonical no_types = refl
  pointers_canonical (one_type p ps) = ap₂ (λ (a b : Bool). a || b) (pointer_unqualified (canonical p) ∙ pointer_canonical p) (pointers_canonical ps)

-- ---- results

gives_qualify : (q : ℕ) (t : CType) → gives_told (qualify q t) ≡ gives_told t
gives_qualify = qualify_same gives_told (λ q t. refl) (λ t u n e. e) (λ t u e. e)

pub gives_canonical : (t : CType) → gives_told (canonical t) ≡ gives_told t
gives_canonical Void = refl
gives_canonical (Int kind) = refl
gives_canonical (Enum e) = refl
gives_canonical (Pointer t) = refl
gives_canonical (Array t n) = gives_canonical t
gives_canonical (Flexible t) = gives_canonical t
gives_canonical (Function r ps) = gives_canonical r
gives_canonical (Record n) = refl
gives_canonical (Named n t) = gives_canonical t
gives_canonical (Qualified q t) = gives_qualify q (canonical t) ∙ gives_canonical t

-- ---- outer qualifiers

stripped_with : (b : Bool) (q : ℕ) (t : CType) → stripped t ≡ t → stripped (if b then t else Qualified q t) ≡ t
stripped_with true q t e = e
stripped_with false q t e = refl

pub stripped_qualify : (q : ℕ) (t : CType) → stripped (qualify q t) ≡ stripped t
stripped_qualify q (Qualified p t) = refl
stripped_qualify q (Array t n) = ap (λ (u : CType). Array u n) (stripped_qualify q t)
stripped_qualify q (Flexible t) = ap Flexible (stripped_qualify q t)
stripped_qualify q Void = stripped_with (q == 0) q Void refl
stripped_qualify q (Int kind) = stripped_with (q == 0) q (Int kind) refl
stripped_qualify q (Enum e) = stripped_with (q == 0) q (Enum e) refl
stripped_qualify q (Pointer t) = stripped_with (q == 0) q (Pointer t) refl
stripped_qualify q (Function r ps) = stripped_with (q == 0) q (Function r ps) refl
stripped_qualify q (Record n) = stripped_with (q == 0) q (Record n) refl
stripped_qualify q (Named n t) = stripped_with (q == 0) q (Named n t) refl
