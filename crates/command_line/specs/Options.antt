-- What the words of the command line ask for.
use Rattle.std.specs.Prelude.{ℕ, bytes_eq, codes, List, [], ◌∷◌, Option, Some, None, option_map, option_and_then, if◌then◌else◌}
use Rattle.command_line.specs.Words.{Part, Mode, Max, parts, values, files, number}
use Rattle.command_line.specs.declared.options.Options.{Options}

-- `--max` may stand once, and is 16 where it doesn't
abbrev pub max_of : List (List ℕ) → Option ℕ
max_of [] = Some 16
max_of (w ∷ []) = number 1 65536 w
max_of (w ∷ v ∷ ws) = None

-- `--mode increment` stands once, and so does the file
abbrev pub options_from : List (List ℕ) → List (List ℕ) → List (List ℕ) → Option Options
options_from (mode ∷ []) maxs (f ∷ []) =
    if bytes_eq mode (codes "increment") then option_map (λ n. record { file = f; max = n }) (max_of maxs) else None
options_from modes maxs fs = None

abbrev pub options_in : List Part → Option Options
options_in ps = options_from (values Mode ps) (values Max ps) (files ps)

-- none where the words are none that the program takes
abbrev pub options_of : List (List ℕ) → Option Options
options_of [] = None
options_of (command ∷ ws) = if bytes_eq command (codes "rewrite") then option_and_then options_in (parts ws) else None
