-- The typedef name that a declarator makes.
use Rattle.std.specs.Prelude.{ℕ, Bool, true, false, List, Option, None}

-- the name that a declarator makes a typedef name
abbrev pub made_name : Bool → Option (List ℕ) → Option (List ℕ)
made_name true n = n
made_name false n = None
