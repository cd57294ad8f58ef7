-- An index of names: a list of keys, each with the text of a name.
use Rattle.std.specs.Prelude.{◌≡◌, ℕ, nat_eq, List}
use Rattle.std.specs.List.{list_any}
use Rattle.std.specs.Cmp.Lexicographic.{pointwise}
use Rattle.c_tree.specs.Wf.{Env, is_type}

-- the keys have just the names of the list
abbrev pub Indexes : {K : Type 0} → (K → List ℕ) → List K → Env → Type 0
Indexes text ks env = (x : List ℕ) → list_any (λ k. pointwise nat_eq x (text k)) ks ≡ is_type env x
