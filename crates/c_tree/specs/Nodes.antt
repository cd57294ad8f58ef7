-- How many nodes a unit has, beside the tokens that it spells.
use Rattle.std.specs.Prelude.{◌≡◌, ◌≤◌, ◌<◌, ℕ, List, [], ◌∷◌, length, All}
use Rattle.c_tree.specs.Marked.{External}
use Rattle.c_tree.specs.Bare.{bare_unit}
use Rattle.c_tree.specs.Put.{toks}
use Rattle.c_tree.specs.Wf.{WfUnit}
use Rattle.c_tree.specs.Pieces.{Piece, token, opens, closes, absent, pieces_unit}
use Rattle.c_tree.specs.Places.{IsNumbered}
use Rattle.c_tree.specs.Examples.{marked}

-- the numbers of the nodes in the order of their ends, an absent name's too
abbrev pub numbers_of : List Piece → List ℕ
numbers_of [] = []
numbers_of (token t ∷ ps) = numbers_of ps
numbers_of (opens at ∷ ps) = numbers_of ps
numbers_of (closes at ∷ ps) = at.id ∷ numbers_of ps
numbers_of (absent at ∷ ps) = at.id ∷ numbers_of ps

abbrev pub numbers : List External → List ℕ
numbers u = numbers_of (pieces_unit u [])

-- a well-formed unit has at most one node for each token that it spells
abbrev pub NodesAreFew : Type 0
NodesAreFew = (u : List External) → WfUnit [] (bare_unit u) → length (numbers u) ≤ length (toks (bare_unit u))

-- so each number of a node is less than the count of the tokens
abbrev pub NumbersAreLow : Type 0
NumbersAreLow = (u : List External) → WfUnit [] (bare_unit u) → IsNumbered u → All (λ n. n < length (toks (bare_unit u))) (numbers u)

-- and it may have as many: int f(int *);
abbrev pub NodesAreAsMany : Type 0
NodesAreAsMany = (length (numbers marked) ≡ 7) × (length (toks (bare_unit marked)) ≡ 7)
