-- Names by their places in a table.
use Rattle.std.specs.Prelude.{ℕ, ◌+◌, nat_eq, if◌then◌else◌, List, [], ◌∷◌, Option, Some, None}
use Rattle.std.specs.Cmp.Lexicographic.{pointwise}

-- the first place of the name, where the table's first place is i
abbrev pub place_from : (i : ℕ) → List ℕ → List (List ℕ) → Option ℕ
place_from i n [] = None
place_from i n (t ∷ ts) = if pointwise nat_eq n t then Some i else place_from (i + 1) n ts
