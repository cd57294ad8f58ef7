-- Which lists of kinds and texts are units, and where others go wrong.
use Rattle.std.specs.Prelude.{◌≡◌, List, [], ◌∷◌, ◌++◌, map}
use Rattle.tok_base.specs.declared.token.Lexeme.{Lexeme}
use Rattle.c_tree.specs.Tree.{External}
use Rattle.c_tree.specs.Lexeme.{lexeme}
use Rattle.c_tree.specs.Put.{toks}
use Rattle.c_tree.specs.Wf.{WfUnit}
use Rattle.c_tree.specs.Depth.{IsFlat}

-- the one list of kinds and texts that a unit spells
abbrev pub spelled : List External → List Lexeme
spelled u = map lexeme (toks u)

-- u is well formed and spells ls
abbrev pub Reads : List Lexeme → List External → Type 0
Reads ls u = WfUnit [] u × (spelled u ≡ ls)

-- ls are a well-formed unit's
abbrev pub IsUnit : List Lexeme → Type 0
IsUnit ls = (u : List External) × Reads ls u

-- p is a prefix of what a well-formed unit spells
abbrev pub Begins : List Lexeme → Type 0
Begins p = (u : List External) × WfUnit [] u × (q : List Lexeme) × (spelled u ≡ p ++ q)

-- p, what stands before the place, begins a unit, and with what stands there it begins none
abbrev pub IsPlace : List Lexeme → List Lexeme → Type 0
IsPlace p rest = Begins p × ((l : Lexeme) (more : List Lexeme) → rest ≡ l ∷ more → Begins (p ++ l ∷ []) → ⊥)

-- no flat well-formed unit begins with p
abbrev pub IsDeep : List Lexeme → Type 0
IsDeep p = (u : List External) (q : List Lexeme) → WfUnit [] u → IsFlat u → spelled u ≡ p ++ q → ⊥
