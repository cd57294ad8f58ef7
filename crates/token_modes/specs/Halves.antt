-- In split mode the tokens of types with a pointer are apart from those of types without one.
use Rattle.std.specs.Prelude.{◌≡◌, ◌≢◌, ℕ, ◌-◌, ◌*◌, ◌%◌, ◌<◌, ◌≤◌, ◌↔◌, Bool, IsTrue, List, Some}
use Rattle.token_modes.specs.Tokens.{half, token}
use Rattle.token_modes.specs.declared.mode.Mode.TheVariants.{Split}
use Rattle.token_modes.specs.declared.plan.Plan.{Plan}

abbrev pub InFirstHalf : ℕ → ℕ → Type 0
InFirstHalf max token = token < half max

abbrev pub InSecondHalf : ℕ → ℕ → Type 0
InSecondHalf max token = (half max ≤ token) × (token < 2 * half max)

-- the token of a type stands in the second half exactly where the type contains a pointer, and else in
-- the first; the last token of an odd maximum is given to no type
pub record InItsHalf (max : ℕ) (pointer : Bool) (token : ℕ) : Type 0 where
  pub second : IsTrue pointer ↔ InSecondHalf max token
  pub first : (¬ IsTrue pointer) ↔ InFirstHalf max token
  pub not_last : max % 2 ≡ 1 → token ≢ max - 1

-- so it is for each site with a type, under each plan in split mode with two tokens or more
abbrev pub TypedSitesKeepTheirHalf : Type 0
TypedSitesKeepTheirHalf =
    (plan : Plan) (k word : ℕ) (spelling : List ℕ) (pointer : Bool) → plan.mode ≡ Split → 2 ≤ plan.max
    → InItsHalf plan.max pointer (token plan k word (Some (spelling, pointer)))
