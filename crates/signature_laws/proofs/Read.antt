-- The signature that is read from a function type's spelling is what the type takes and gives.
use Rattle.std.proofs.Common.{◌≡◌, ℕ, List, [], ◌∷◌, Bool, true, false, ◌||◌, if◌then◌else◌, Option, Some, None, refl, ◌∙◌, ap, ap₂}
use Rattle.std.specs.Prelude.{is_some}
use Rattle.std.proofs.lemmas.Bool.{false≢true}
use Rattle.num_ops.specs.declared.kinds.IntKind.TheVariants as k
use Rattle.c_core.specs.declared.values.Scalar.{Scalar}
use Rattle.c_core.specs.declared.values.Scalar.TheVariants as scalar
use Rattle.c_core.specs.Signatures.{Signature, signature}
use Rattle.c_types.specs.CTypes.{CType, CTypes, Void, Int, Enum, Pointer, Array, Flexible, Function, Record, Named, Qualified, no_types, one_type}
use Rattle.c_types.specs.Canonical.{canonical, canonical_parameters}
use Rattle.c_types.specs.Spelling.{Names, spelling, spelled, spelled_parameters}
use Rattle.c_types.specs.Pieces.{before, behind}
use Rattle.c_types.specs.declared.pieces.Inside.TheVariants as i
use Rattle.c_types.proofs.Piecing.{parts}
use Rattle.signature_laws.specs.Named.{AreNamed, AllNamed}
use Rattle.signature_laws.specs.Told.{scalar_of, scalars_of, one_more, is_void, parameter_told, parameters_told, is_only_void, takes_told, gives_told}
use Rattle.signature_laws.specs.Laws.{SignatureIsRead, EverySignatureIsRead}
use Rattle.signature_laws.proofs.Canonical.{named_canonical, all_canonical, gives_canonical, stripped_qualify}
use Rattle.signature_laws.proofs.Fronts.{before_passed, result_before, signature_is}
use Rattle.signature_laws.proofs.Wholes.{listed_parameters}
use Rattle.signature_laws.proofs.Heads.{parameters_open}
use Rattle.signature_laws.proofs.Parameters.{parameters_are}

abbrev made : List Scalar → Option Scalar → Signature
made takes gives = record { takes = takes; gives = gives }

function_is : (names : Names) (r : CType) (ps : CTypes) → AreNamed names (Function r ps) → signature (spelling names (Function r ps)) ≡ made (takes_told ps) (gives_told r)
function_is names r ps h =
    let u : CType = canonical r in
    let us : CTypes = canonical_parameters ps in
    let hu : AreNamed names u = named_canonical names r h.0 in
    let hus : AllNamed names us = all_canonical names ps h.1 in
    let x : List ℕ = before names 0 u i.Other in
    let params : List ℕ = spelled_parameters names us in
    let rest : List ℕ = behind names u in
    ap signature (parts names 0 (Function u us) [])
    ∙ signature_is x params rest (before_passed names 0 u i.Other hu) (parameters_open names us rest hus) (listed_parameters names us hus)
    ∙ ap₂ made (parameters_are names ps h.1) (result_before names 0 u hu ∙ gives_canonical r)

same : (a b : Signature) → Some a ≡ Some b → a ≡ b
same a b e = cc

none : (s : Signature) → None ≡ Some s → ⊥
none s e = cc

pub every_signature_is_read : EverySignatureIsRead
every_signature_is_read names (Function r ps) s h e = function_is names r ps h ∙ same (made (takes_told ps) (gives_told r)) s e
every_signature_is_read names (Named n t) s h e = every_signature_is_read names t s h e
every_signature_is_read names (Qualified q t) s h e =
    ap (λ (u : CType). signature (spelled names 0 u [])) (stripped_qualify q (canonical t)) ∙ every_signature_is_read names t s h e
every_signature_is_read names Void s h e = absurd (none s e)
every_signature_is_read names (Int kind) s h e = absurd (none s e)
every_signature_is_read names (Enum n) s h e = absurd (none s e)
every_signature_is_read names (Pointer t) s h e = absurd (none s e)
every_signature_is_read names (Array t n) s h e = absurd (none s e)
every_signature_is_read names (Flexible t) s h e = absurd (none s e)
every_signature_is_read names (Record n) s h e = absurd (none s e)

-- ---- scalars

record IsTold (p : CType) (s : Scalar) : Type 0 where
  is : parameter_told p ≡ s
  not_void : is_void p ≡ false

no_scalar : (s : Scalar) → None ≡ Some s → ⊥
no_scalar s e = cc

same_scalar : (a b : Scalar) → Some a ≡ Some b → a ≡ b
same_scalar a b e = cc

scalar_is : (p : CType) (s : Scalar) → scalar_of p ≡ Some s → IsTold p s
scalar_is (Int kind) s e = record { is = same_scalar (scalar.Int kind) s e; not_void = refl }
scalar_is (Enum n) s e = record { is = same_scalar (scalar.Int k.Int) s e; not_void = refl }
scalar_is (Pointer t) s e = record { is = same_scalar scalar.Ptr s e; not_void = refl }
scalar_is (Named n t) s e = let r = scalar_is t s e in record { is = r.is; not_void = r.not_void }
scalar_is (Qualified q t) s e = let r = scalar_is t s e in record { is = r.is; not_void = r.not_void }
scalar_is Void s e = absurd (no_scalar s e)
scalar_is (Array t n) s e = absurd (no_scalar s e)
scalar_is (Flexible t) s e = absurd (no_scalar s e)
scalar_is (Function r ps) s e = absurd (no_scalar s e)
scalar_is (Record n) s e = absurd (no_scalar s e)

record IsMore (o : Option Scalar) (os : Option (List Scalar)) (ss : List Scalar) : Type 0 where
  first : Scalar
  others : List Scalar
  first_is : o ≡ Some first
  others_are : os ≡ Some others
  is : first ∷ others ≡ ss

more_of : (o : Option Scalar) (os : Option (List Scalar)) (ss : List Scalar) → one_more o os ≡ Some ss → IsMore o os ss
more_of (Some s) (Some others) ss e = record { first = s; others = others; first_is = refl; others_are = refl; is = (cc) }
more_of (Some s) None ss e = absurd (cc)
more_of None os ss e = absurd (cc)

scalars_are : (ps : CTypes) (ss : List Scalar) → scalars_of ps ≡ Some ss → parameters_told ps ≡ ss
scalars_are no_types ss e = cc
scalars_are (one_type p ps) ss e =
    let m = more_of (scalar_of p) (scalars_of ps) ss e in
    let r = scalar_is p m.first m.first_is in
    ap₂ (λ (a : Scalar) (b : List Scalar). a ∷ b) r.is (scalars_are ps m.others m.others_are) ∙ m.is

not_only_void : (ps : CTypes) (ss : List Scalar) → scalars_of ps ≡ Some ss → is_only_void ps ≡ false
not_only_void no_types ss e = refl
not_only_void (one_type p no_types) ss e =
    let m = more_of (scalar_of p) (scalars_of no_types) ss e in
    let r = scalar_is p m.first m.first_is in
    r.not_void
not_only_void (one_type p (one_type q qs)) ss e = refl

takes_are : (ps : CTypes) (ss : List Scalar) → scalars_of ps ≡ Some ss → takes_told ps ≡ ss
takes_are ps ss e = ap (λ (b : Bool). if b then [] else parameters_told ps) (not_only_void ps ss e) ∙ scalars_are ps ss e

gives_is : (r : CType) → (is_void r || is_some (scalar_of r)) ≡ true → gives_told r ≡ scalar_of r
gives_is Void g = refl
gives_is (Int kind) g = refl
gives_is (Enum n) g = refl
gives_is (Pointer t) g = refl
gives_is (Named n t) g = gives_is t g
gives_is (Qualified q t) g = gives_is t g
gives_is (Array t n) g = absurd (false≢true g)
gives_is (Flexible t) g = absurd (false≢true g)
gives_is (Function r ps) g = absurd (false≢true g)
gives_is (Record n) g = absurd (false≢true g)

pub signature_is_read : SignatureIsRead
signature_is_read names r ps takes h g e = function_is names r ps h ∙ ap₂ made (takes_are ps takes e) (gives_is r g)
