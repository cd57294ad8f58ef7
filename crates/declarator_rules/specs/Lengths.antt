-- An array whose length its initialiser gives, behind typedef names and qualifiers.
use Rattle.std.specs.Prelude.{◌≡◌, ℕ, true, List, [], ◌∷◌, Option, Some, None}
use Rattle.c_types.specs.CTypes.{CType, Qualified, is_flexible}
use Rattle.c_types.specs.Plain.{plain}
use Rattle.c_rules.specs.Declarators.{with_length}
use Rattle.c_rules.specs.Types.{element}

-- qualifiers around a type, the outermost first
abbrev pub wrapped : List ℕ → CType → CType
wrapped [] t = t
wrapped (q ∷ qs) t = Qualified q (wrapped qs t)

abbrev pub qualified : Option ℕ → CType → CType
qualified None t = t
qualified (Some q) t = Qualified q t

-- t is u with qualifiers around it, or with a typedef name
pub record IsAround (t : CType) (q : Option ℕ) (u : CType) : Type 0 where
  pub length : (n : ℕ) → with_length n t ≡ qualified q (with_length n u)
  pub element : element (plain t) ≡ element (plain u)
  pub flexible : is_flexible t ≡ is_flexible u

-- qualifiers and elements of an array without a length
pub record IsUnwrapped (t : CType) (qs : List ℕ) (u : CType) : Type 0 where
  pub length : (n : ℕ) → with_length n t ≡ wrapped qs (with_length n u)
  pub element : element (plain t) ≡ element (plain u)

-- an initialiser gives a length to an array without one
abbrev pub FitsLength : Option ℕ → CType → Type 0
FitsLength None t = Unit {0}
FitsLength (Some n) t = is_flexible t ≡ true
