-- The first part of a type and the others; single steps.
use Rattle.std.specs.Prelude.{◌≡◌, Bool, true, false, ◌&&◌, ◌||◌, not, if◌then◌else◌, List, [], ◌∷◌, ◌++◌, map, Option, Some, None}
use Rattle.c_tree.specs.declared.operator.At.{At}
use Rattle.c_types.specs.CTypes.{CType, Void, Int, Enum, Pointer, Array, Flexible, Function, Record, Named, Qualified}
use Rattle.c_types.specs.Plain.{plain}
use Rattle.c_types.specs.declared.terms.Term.{Term}
use Rattle.c_types.specs.Table.{type_at, member_of}
use Rattle.c_types.specs.declared.records.Member.{Member}
use Rattle.c_rules.specs.Initialisers.{Given, Parts, listed, sized_members, has_part, first_part, other_parts, text_fits, is_record_value, may_initialise}
use Rattle.c_rules.specs.Trials.{M, keep, give, ◌>>◌}
use Rattle.c_rules.specs.Unit.{is_object}
use Rattle.c_rules.specs.World.{World}
use Rattle.c_rules.specs.declared.known.Declares.{Declares}
use Rattle.c_rules.specs.Types.{is_record, is_scalar}
use Rattle.c_rules.specs.Typed.{Typed}
use Rattle.initialiser_rules.specs.Entries.{Fit}
use Rattle.initialiser_rules.specs.Filling.{Left, fits_of, parts_in}
use Rattle.initialiser_rules.specs.declared.parts.Step as r

-- an array without a length itself
abbrev pub is_unsized : CType → Bool
is_unsized (Flexible t) = true
is_unsized Void = false
is_unsized (Int k) = false
is_unsized (Enum e) = false
is_unsized (Pointer t) = false
is_unsized (Array t n) = false
is_unsized (Function r ps) = false
is_unsized (Record k) = false
is_unsized (Named n t) = false
is_unsized (Qualified q t) = false

-- the first part, and the others
pub record First : Type 0 where
  pub type : CType
  pub rest : Parts

abbrev pub first_of : List Term → r.Step → First
first_of ts s = record { type = type_at ts s.ty.0; rest = parts_in ts s.rest }

unfoldable pub first_in : Parts → Option First
first_in ps = if has_part ps then Some (record { type = first_part ps; rest = other_parts ps }) else None

-- the parts behind a member
abbrev pub others_in : List Term → (is_alone : Bool) → List Member → Parts
others_in ts true ms = listed []
others_in ts false ms = listed (sized_members (map (member_of ts) ms))

-- an expression without braces initialises a scalar, and a string literal an array of characters
abbrev pub takes : CType → Typed → Bool
takes t x = is_scalar (plain t) || text_fits (plain t) x.text

abbrev pub fit_alone : At → Typed → CType → Fit
fit_alone at x t = record { at = at; typed = x; type = t }

abbrev pub one_filled : CType → List Fit → At → Typed → List Given → Option Left
one_filled t done at x gs = if takes t x then Some (record { fits = done ++ fit_alone at x t ∷ []; rest = gs }) else None

-- ---- an automatic struct or union as a whole

abbrev pub is_record_given : (is_fixed : Bool) → CType → Typed → Bool
is_record_given is_fixed t x = not is_fixed && is_record (plain t) && is_record (plain x.type)

-- whether the first of a list of initialisers is the value of the whole
abbrev pub IsWhole : World → (is_fixed : Bool) → CType → (is_kept : Bool) → List Given → Type 0
IsWhole w is_fixed t is_kept [] = Unit {0}
IsWhole w is_fixed t is_kept (g ∷ gs) = is_kept ≡ (not is_fixed && is_record (plain t) && is_record_value g)

-- which part its expressions initialise
abbrev pub ArePlaced : World → CType → List Fit → List Given → Type 0
ArePlaced w t fs [] = Unit {0}
ArePlaced w t fs (g ∷ gs) = fs ≡ fits_of w t g

-- ---- rule 10, and which part each expression initialises

abbrev pub is_initialised : World → Declares → CType → (is_fixed : Bool) → Given → Bool
is_initialised w what t is_fixed g = is_object what && may_initialise w is_fixed t g

abbrev pub judge_found : World → At → Declares → CType → (is_fixed : Bool) → Given → M (List Fit)
judge_found w at what t is_fixed g = do
  keep 10 at (is_initialised w what t is_fixed g)
  give (fits_of w t g)
