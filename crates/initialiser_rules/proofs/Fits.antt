-- The rules and notes of an initialiser go over its expressions with the types of their parts.
use Rattle.std.proofs.Common.{◌≡◌, ℕ, zero, suc, Bool, true, false, ◌&&◌, ◌||◌, if◌then◌else◌, List, [], ◌∷◌, ◌++◌, refl, sym, ap, ◌∙◌}
use Rattle.c_types.specs.CTypes.{CType, Void, Int, Enum, Pointer, Array, Flexible, Function, Record, Named, Qualified}
use Rattle.c_types.specs.Plain.{plain}
use Rattle.c_rules.specs.Expressions.{converts, fits}
use Rattle.c_rules.specs.Initialisers.{Given, Givens, one, many, no_more, given, Parts, each, parts_of, first_part, other_parts, text_fits, is_fixed_value, is_fixed_given, are_fixed_given, converts_given, all_converted, with_targets, with_all_targets, with_constants, with_all_constants}
use Rattle.c_rules.specs.Types.{is_scalar, settled}
use Rattle.c_rules.specs.Typed.{constant_value}
use Rattle.c_rules.specs.World.{World, note_target, note_constant}
use Rattle.initialiser_rules.specs.Entries.{Fit}
use Rattle.initialiser_rules.specs.Filling.{all_convert, all_fits, all_fixed, constant_noted, constants_if, constants_noted, fit_converts, fits_of, in_braces, target_noted, targets_noted}
use Rattle.initialiser_rules.proofs.Pieces.{plain_plain}
use Rattle.initialiser_rules.proofs.Stepping.{scalar_parts}

and_true : (b : Bool) → b ≡ (b && true)
and_true true = refl
and_true false = refl

and_on : (a b c : Bool) → ((a && b) && c) ≡ (a && (b && c))
and_on true b c = refl
and_on false b c = refl

-- ---- 11

fixed_append : (xs ys : List Fit) → all_fixed (xs ++ ys) ≡ (all_fixed xs && all_fixed ys)
fixed_append [] ys = refl
fixed_append (x ∷ xs) ys = ap (λ b. is_fixed_value x.typed && b) (fixed_append xs ys) ∙ sym (and_on (is_fixed_value x.typed) (all_fixed xs) (all_fixed ys))

mutual
  pub fixed_is : (w : World) (t : CType) (g : Given) → is_fixed_given g ≡ all_fixed (fits_of w t g)
  fixed_is w t (one at x) = and_true (is_fixed_value x)
  fixed_is w t (many gs) = fixed_are w (in_braces w t) gs

  fixed_are : (w : World) (ps : Parts) (gs : Givens) → are_fixed_given gs ≡ all_fixed (all_fits w ps gs)
  fixed_are w ps no_more = refl
  fixed_are w ps (given g gs) =
      rw (fixed_is w (first_part ps) g, fixed_are w (other_parts ps) gs) (sym (fixed_append (fits_of w (first_part ps) g) (all_fits w (other_parts ps) gs)))

-- ---- 23

convert_append : (xs ys : List Fit) → all_convert (xs ++ ys) ≡ (all_convert xs && all_convert ys)
convert_append [] ys = refl
convert_append (x ∷ xs) ys = ap (λ b. fit_converts x && b) (convert_append xs ys) ∙ sym (and_on (fit_converts x) (all_convert xs) (all_convert ys))

converts_plain : (w : World) (t : CType) (g : Given) → converts_given w (plain t) g ≡ converts_given w t g
converts_plain w t (one at x) = ap (λ u. text_fits u x.text || fits u (settled x.type) x) (plain_plain t)
converts_plain w t (many gs) = ap (λ u. all_converted w (parts_of w u) gs) (plain_plain t)

converts_alike : (w : World) (t : CType) (n : ℕ) (gs : Givens) → all_converted w (each n (plain t)) gs ≡ all_converted w (each n t) gs
converts_alike w t n no_more = refl
converts_alike w t zero (given g gs) = rw (converts_plain w t g, converts_alike w t zero gs) refl
converts_alike w t (suc n) (given g gs) = rw (converts_plain w t g, converts_alike w t n gs) refl

converts_braces : (w : World) (t : CType) (gs : Givens) → all_converted w (parts_of w (plain t)) gs ≡ all_converted w (in_braces w t) gs
converts_braces w t gs = by_scalar (is_scalar (plain t)) refl
  where
    by_scalar : (b : Bool) → is_scalar (plain t) ≡ b → all_converted w (parts_of w (plain t)) gs ≡ all_converted w (if b then each 1 t else parts_of w (plain t)) gs
    by_scalar true e = ap (λ p. all_converted w p gs) (scalar_parts w (plain t) e) ∙ converts_alike w t 1 gs
    by_scalar false e = refl

mutual
  pub converts_is : (w : World) (t : CType) (g : Given) → converts_given w t g ≡ all_convert (fits_of w t g)
  converts_is w t (one at x) = and_true (text_fits (plain t) x.text || converts t x)
  converts_is w t (many gs) = converts_braces w t gs ∙ converts_are w (in_braces w t) gs

  converts_are : (w : World) (ps : Parts) (gs : Givens) → all_converted w ps gs ≡ all_convert (all_fits w ps gs)
  converts_are w ps no_more = refl
  converts_are w ps (given g gs) =
      rw (converts_is w (first_part ps) g, converts_are w (other_parts ps) gs) (sym (convert_append (fits_of w (first_part ps) g) (all_fits w (other_parts ps) gs)))

-- ---- what is noted leaves the records as they are

parts_same : (w v : World) (t : CType) → v.records ≡ w.records → parts_of v t ≡ parts_of w t
parts_same w v (Record k) e = rw e refl
parts_same w v (Int k) e = refl
parts_same w v (Enum n) e = refl
parts_same w v (Pointer t) e = refl
parts_same w v Void e = refl
parts_same w v (Array t n) e = refl
parts_same w v (Flexible t) e = refl
parts_same w v (Function r ps) e = refl
parts_same w v (Named n t) e = refl
parts_same w v (Qualified q t) e = refl

braces_same : (w v : World) (t : CType) → v.records ≡ w.records → in_braces v t ≡ in_braces w t
braces_same w v t e = ap (λ p. if is_scalar (plain t) then each 1 t else p) (parts_same w v (plain t) e)

if_records : (b : Bool) (v w : World) → v.records ≡ w.records → (if b then w else v).records ≡ w.records
if_records true v w e = refl
if_records false v w e = e

pub targets_keep : (fs : List Fit) (w : World) → (targets_noted fs w).records ≡ w.records
targets_keep [] w = refl
targets_keep (f ∷ fs) w = targets_keep fs (target_noted f w) ∙ if_records (text_fits (plain f.type) f.typed.text) (note_target f.at.id f.type w) w refl

constants_keep : (fs : List Fit) (w : World) → (constants_noted fs w).records ≡ w.records
constants_keep [] w = refl
constants_keep (f ∷ fs) w = constants_keep fs (constant_noted f w) ∙ if_records (text_fits (plain f.type) f.typed.text) (note_constant f.at.id (constant_value f.typed) w) w refl

-- ---- the types

targets_append : (xs ys : List Fit) (w : World) → targets_noted (xs ++ ys) w ≡ targets_noted ys (targets_noted xs w)
targets_append [] ys w = refl
targets_append (x ∷ xs) ys w = targets_append xs ys (target_noted x w)

mutual
  pub targets_is : (w v : World) (t : CType) (g : Given) → v.records ≡ w.records → with_targets t g v ≡ targets_noted (fits_of w t g) v
  targets_is w v t (one at x) e = refl
  targets_is w v t (many gs) e = ap (λ p. with_all_targets p gs v) (braces_same w v t e) ∙ targets_are w v (in_braces w t) gs e

  targets_are : (w v : World) (ps : Parts) (gs : Givens) → v.records ≡ w.records → with_all_targets ps gs v ≡ targets_noted (all_fits w ps gs) v
  targets_are w v ps no_more e = refl
  targets_are w v ps (given g gs) e =
      ap (λ u. with_all_targets (other_parts ps) gs u) (targets_is w v (first_part ps) g e)
      ∙ targets_are w (targets_noted (fits_of w (first_part ps) g) v) (other_parts ps) gs (targets_keep (fits_of w (first_part ps) g) v ∙ e)
      ∙ sym (targets_append (fits_of w (first_part ps) g) (all_fits w (other_parts ps) gs) v)

-- ---- the constants

constants_append : (xs ys : List Fit) (w : World) → constants_noted (xs ++ ys) w ≡ constants_noted ys (constants_noted xs w)
constants_append [] ys w = refl
constants_append (x ∷ xs) ys w = constants_append xs ys (constant_noted x w)

constants_plain : (t : CType) (g : Given) (v : World) → with_constants (plain t) g v ≡ with_constants t g v
constants_plain t (one at x) v = ap (λ u. if text_fits u x.text then v else note_constant at.id (constant_value x) v) (plain_plain t)
constants_plain t (many gs) v = ap (λ u. with_all_constants (parts_of v u) gs v) (plain_plain t)

constants_alike : (t : CType) (n : ℕ) (gs : Givens) (v : World) → with_all_constants (each n (plain t)) gs v ≡ with_all_constants (each n t) gs v
constants_alike t n no_more v = refl
constants_alike t zero (given g gs) v = constants_alike t zero gs (with_constants (plain t) g v) ∙ ap (λ u. with_all_constants (each 0 t) gs u) (constants_plain t g v)
constants_alike t (suc n) (given g gs) v = constants_alike t n gs (with_constants (plain t) g v) ∙ ap (λ u. with_all_constants (each n t) gs u) (constants_plain t g v)

constants_braces : (t : CType) (gs : Givens) (v : World) → with_all_constants (parts_of v (plain t)) gs v ≡ with_all_constants (in_braces v t) gs v
constants_braces t gs v = by_scalar (is_scalar (plain t)) refl
  where
    by_scalar : (b : Bool) → is_scalar (plain t) ≡ b → with_all_constants (parts_of v (plain t)) gs v ≡ with_all_constants (if b then each 1 t else parts_of v (plain t)) gs v
    by_scalar true e = ap (λ p. with_all_constants p gs v) (scalar_parts v (plain t) e) ∙ constants_alike t 1 gs v
    by_scalar false e = refl

mutual
  pub constants_is : (w v : World) (t : CType) (g : Given) → v.records ≡ w.records → with_constants t g v ≡ constants_noted (fits_of w t g) v
  constants_is w v t (one at x) e = refl
  constants_is w v t (many gs) e = constants_braces t gs v ∙ ap (λ p. with_all_constants p gs v) (braces_same w v t e) ∙ constants_are w v (in_braces w t) gs e

  constants_are : (w v : World) (ps : Parts) (gs : Givens) → v.records ≡ w.records → with_all_constants ps gs v ≡ constants_noted (all_fits w ps gs) v
  constants_are w v ps no_more e = refl
  constants_are w v ps (given g gs) e =
      ap (λ u. with_all_constants (other_parts ps) gs u) (constants_is w v (first_part ps) g e)
      ∙ constants_are w (constants_noted (fits_of w (first_part ps) g) v) (other_parts ps) gs (constants_keep (fits_of w (first_part ps) g) v ∙ e)
      ∙ sym (constants_append (fits_of w (first_part ps) g) (all_fits w (other_parts ps) gs) v)

pub noted_same : (is_fixed : Bool) (xs ys : List Fit) (w v : World) → xs ≡ ys → w ≡ v → constants_if is_fixed xs (targets_noted xs w) ≡ constants_if is_fixed ys (targets_noted ys v)
noted_same is_fixed xs ys w v p q =
    ap (λ (zs : List Fit). constants_if is_fixed zs (targets_noted zs w)) p ∙ ap (λ (u : World). constants_if is_fixed ys (targets_noted ys u)) q
