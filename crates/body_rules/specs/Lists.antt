-- How far a loop over a list has come.
use Rattle.std.specs.Prelude.{◌≡◌, ℕ, List, ◌++◌, drop}

-- what a function says of the list is what it says of the part that is left
abbrev pub IsLeft : {A B : Type 0} → (List A → B) → List A → ℕ → Type 0
IsLeft f xs i = f xs ≡ f (drop i xs)

-- what was gathered, with what the part that is left gives, is what the list gives
abbrev pub IsGathered : {A B : Type 0} → (List A → List B) → List B → List A → ℕ → Type 0
IsGathered f done xs i = f xs ≡ done ++ f (drop i xs)
