-- The arguments of a call by the numbers of their types, in the words of the rules.
use Rattle.std.specs.Prelude.{ℕ, ◌<◌, List, [], ◌∷◌}
use Rattle.c_types.specs.declared.terms.Term.{Term}
use Rattle.c_types.specs.CTypes.{CTypes, no_types, one_type}
use Rattle.c_rules.specs.Forms.{Given}
use Rattle.c_rules.specs.World.{World, note_target}
use Rattle.expression_rules.specs.declared.typed.Argument as r
use Rattle.expression_rules.specs.Typed.{typed_of}

abbrev pub given_of : List Term → r.Argument → Given
given_of ts x = record { at = x.at; typed = typed_of ts x.typed }

unfoldable pub all_given : List Term → List r.Argument → List Given
all_given ts [] = []
all_given ts (x ∷ xs) = given_of ts x ∷ all_given ts xs

-- the types of all arguments have numbers below n
abbrev pub AllBelow : ℕ → List r.Argument → Type 0
AllBelow n [] = Unit {0}
AllBelow n (x ∷ xs) = (x.typed.ty.0 < n) × AllBelow n xs

-- each argument that has a parameter is converted to it
unfoldable pub converted_all : CTypes → List Given → World → World
converted_all no_types xs w = w
converted_all (one_type p ps) [] w = w
converted_all (one_type p ps) (x ∷ xs) w = converted_all ps xs (note_target x.at.id p w)
