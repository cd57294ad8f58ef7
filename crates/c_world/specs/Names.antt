-- The names in scope, by the numbers of their types.
use Rattle.std.specs.Prelude.{◌≡◌, ℕ, ◌==◌, Bool, false, List, [], ◌∷◌, Option, Some, None, if◌then◌else◌, option_and_then, nat_eq}
use Rattle.std.specs.Cmp.Lexicographic.{pointwise}
use Rattle.std.specs.Map.{lookup}
use Rattle.c_tree.specs.Text.{same_text}
use Rattle.c_world.specs.declared.names.Bound.{Bound}
use Rattle.c_world.specs.declared.names.NameEntry.{NameEntry}
use Rattle.c_world.specs.declared.names.Undo.{Undo}

-- the newest entry of the name
abbrev pub find_in : List ℕ → List NameEntry → Option NameEntry
find_in n [] = None
find_in n (e ∷ es) = if same_text n e.name then Some e else find_in n es

-- whether the newest name stands at this depth
abbrev pub stands_at : ℕ → List NameEntry → Bool
stands_at depth [] = false
stands_at depth (e ∷ es) = e.bound.depth == depth

-- the names that are left where the block at this depth ends
abbrev pub names_left : ℕ → List NameEntry → List NameEntry
names_left depth [] = []
names_left depth (e ∷ es) = if e.bound.depth == depth then names_left depth es else e ∷ es

-- the names that it declared
abbrev pub names_at : ℕ → List NameEntry → List NameEntry
names_at depth [] = []
names_at depth (e ∷ es) = if e.bound.depth == depth then e ∷ names_at depth es else []

-- ---- inside

abbrev pub entry_of : Undo → NameEntry
entry_of u = u.entry

-- what an index has at a name
abbrev pub head_in : {K : Type 0} → (K → List ℕ) → List (K × Option Bound) → List ℕ → Option Bound
head_in text es n = option_and_then (λ o. o) (lookup (λ k. pointwise nat_eq n (text k)) es)

-- a name stands for what it was declared as last, and before that for what the declaration notes
abbrev pub Follows : (List ℕ → Option Bound) → List Undo → Type 0
Follows f [] = (n : List ℕ) → f n ≡ None
Follows f (u ∷ us) = (f u.entry.name ≡ Some u.entry.bound) × Follows (λ n. if same_text n u.entry.name then u.before else f n) us
