-- Which expressions initialise which parts of a type.
use Rattle.std.specs.Prelude.{ℕ, ◌<◌, zero, suc, Bool, true, false, ◌&&◌, ◌||◌, not, if◌then◌else◌, List, [], ◌∷◌, ◌++◌, take, drop, map, Option, Some, None}
use Rattle.c_tree.specs.declared.operator.At.{At}
use Rattle.c_types.specs.CTypes.{CType}
use Rattle.c_types.specs.Plain.{plain}
use Rattle.c_types.specs.declared.terms.Term.{Term}
use Rattle.c_types.specs.Table.{type_at, member_of, MembersBelow}
use Rattle.c_rules.specs.Expressions.{converts}
use Rattle.c_rules.specs.Initialisers.{Given, Givens, one, many, no_more, given, Parts, each, listed, parts_of, first_part, other_parts, first_alone, sized_members, text_fits, initialises, all_initialise, is_fixed_value}
use Rattle.c_rules.specs.Trials.{M, keep, change, ◌>>◌}
use Rattle.c_rules.specs.Types.{is_scalar}
use Rattle.c_rules.specs.Typed.{constant_value}
use Rattle.c_rules.specs.World.{World, note_target, note_constant}
use Rattle.initialiser_rules.specs.Entries.{Fit, givens_of, reads, fits_in}
use Rattle.initialiser_rules.specs.declared.given.Entry.{Entry}
use Rattle.initialiser_rules.specs.declared.given.Fitted.{Fitted}
use Rattle.initialiser_rules.specs.declared.parts.Parts as r
use Rattle.initialiser_rules.specs.declared.parts.Parts.TheVariants as p

-- ---- the expressions of an initialiser, each with the type of its part

-- the parts that braces initialise: of a scalar it is the scalar itself, as written
abbrev pub in_braces : World → CType → Parts
in_braces w t = if is_scalar (plain t) then each 1 t else parts_of w (plain t)

abbrev mutual
  pub fits_of : World → CType → Given → List Fit
  fits_of w t (one at x) = record { at = at; typed = x; type = t } ∷ []
  fits_of w t (many gs) = all_fits w (in_braces w t) gs

  pub all_fits : World → Parts → Givens → List Fit
  all_fits w ps no_more = []
  all_fits w ps (given g gs) = fits_of w (first_part ps) g ++ all_fits w (other_parts ps) gs

-- 11, 23, and what is noted
abbrev pub all_fixed : List Fit → Bool
all_fixed [] = true
all_fixed (f ∷ fs) = is_fixed_value f.typed && all_fixed fs

abbrev pub is_text : Fit → Bool
is_text f = text_fits (plain f.type) f.typed.text

abbrev pub fit_converts : Fit → Bool
fit_converts f = is_text f || converts f.type f.typed

abbrev pub all_convert : List Fit → Bool
all_convert [] = true
all_convert (f ∷ fs) = fit_converts f && all_convert fs

abbrev pub target_noted : Fit → World → World
target_noted f w = if is_text f then w else note_target f.at.id f.type w

abbrev pub targets_noted : List Fit → World → World
targets_noted [] w = w
targets_noted (f ∷ fs) w = targets_noted fs (target_noted f w)

abbrev pub constant_noted : Fit → World → World
constant_noted f w = if is_text f then w else note_constant f.at.id (constant_value f.typed) w

abbrev pub constants_noted : List Fit → World → World
constants_noted [] w = w
constants_noted (f ∷ fs) w = constants_noted fs (constant_noted f w)

abbrev pub constants_if : Bool → List Fit → World → World
constants_if true fs w = constants_noted fs w
constants_if false fs w = w

abbrev pub judge_fits : At → (is_fixed : Bool) → List Fit → M (Unit {0})
judge_fits at is_fixed fs = do
  keep 11 at (not is_fixed || all_fixed fs)
  keep 23 at (all_convert fs)
  change (targets_noted fs)
  change (constants_if is_fixed fs)

-- ---- how far initialisers of a list go

-- the expressions found so far, and the initialisers that are left
pub record Left : Type 0 where
  pub fits : List Fit
  pub rest : List Given

-- the first one initialises a type
unfoldable pub filled : World → CType → List Fit → List Given → Option Left
filled w t done [] = None
filled w t done (g ∷ gs) = if initialises w t g then Some (record { fits = done ++ fits_of w t g; rest = gs }) else None

-- the first n initialise parts of what is no scalar
unfoldable pub all_filled : World → Parts → ℕ → List Fit → List Given → Option Left
all_filled w ps n done gs =
    if all_initialise w false ps (givens_of (take n gs))
    then Some (record { fits = done ++ all_fits w ps (givens_of (take n gs)); rest = drop n gs })
    else None

-- the first n stand in the braces of a scalar
unfoldable pub scalar_filled : CType → ℕ → List Fit → List Given → Option Left
scalar_filled t zero done gs = Some (record { fits = done; rest = gs })
scalar_filled t (suc n) done [] = Some (record { fits = done; rest = [] })
scalar_filled t (suc n) done (many gs ∷ rest) = None
scalar_filled t (suc zero) done (one at x ∷ rest) = Some (record { fits = done ++ record { at = at; typed = x; type = t } ∷ []; rest = rest })
scalar_filled t (suc (suc n)) done (one at x ∷ []) = Some (record { fits = done ++ record { at = at; typed = x; type = t } ∷ []; rest = [] })
scalar_filled t (suc (suc n)) done (one at x ∷ g ∷ rest) = None

-- ---- by numbers of types

-- what is left where a list of parts goes on at a place
abbrev pub left_at : List Term → List Entry → List Fitted → Option ℕ → Option Left
left_at ts es fs None = None
left_at ts es fs (Some place) = Some (record { fits = fits_in ts fs; rest = reads ts (drop place es) })

abbrev pub parts_in : List Term → r.Parts → Parts
parts_in ts (p.Each t n) = each n (type_at ts t.0)
parts_in ts (p.Listed ms is_alone) = listed (first_alone is_alone (sized_members (map (member_of ts) ms.now)))

abbrev pub PartsBelow : ℕ → r.Parts → Type 0
PartsBelow n (p.Each t k) = t.0 < n
PartsBelow n (p.Listed ms is_alone) = MembersBelow n ms.now
