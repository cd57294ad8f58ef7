-- The words behind the command: options with their values, and files.
use Rattle.std.specs.Prelude.{ℕ, ◌+◌, ◌*◌, ◌-◌, Bool, true, false, ◌&&◌, not, leb, eqb, bytes_eq, codes, List, [], ◌∷◌, Option, Some, None, if◌then◌else◌}

pub data Key : Type 0 where
  Mode : Key
  Max : Key

abbrev pub key_of : List ℕ → Option Key
key_of w = if bytes_eq w (codes "--mode") then Some Mode else if bytes_eq w (codes "--max") then Some Max else None

pub data Part : Type 0 where
  setting : Key → List ℕ → Part
  file : List ℕ → Part

-- it isn't empty and doesn't begin with `-`
abbrev pub is_plain : List ℕ → Bool
is_plain [] = false
is_plain (b ∷ bs) = not (eqb b 45)

-- an option's value and a file are plain words
abbrev pub with_part : (List ℕ → Part) → List ℕ → Option (List Part) → Option (List Part)
with_part part w None = None
with_part part w (Some ps) = if is_plain w then Some (part w ∷ ps) else None

-- from the left: behind an option stands its value, every other word is a file
abbrev pub parts : List (List ℕ) → Option (List Part)
parts [] = Some []
parts (w ∷ []) = elim (key_of w) [ Some key ↦ None | None ↦ with_part file w (Some []) ]
parts (w ∷ v ∷ ws) = elim (key_of w) [ Some key ↦ with_part (setting key) v (parts ws) | None ↦ with_part file w (parts (v ∷ ws)) ]

-- what stands behind this option, in order
abbrev pub values : Key → List Part → List (List ℕ)
values key [] = []
values Mode (setting Mode v ∷ ps) = v ∷ values Mode ps
values Mode (setting Max v ∷ ps) = values Mode ps
values Max (setting Mode v ∷ ps) = values Max ps
values Max (setting Max v ∷ ps) = v ∷ values Max ps
values Mode (file f ∷ ps) = values Mode ps
values Max (file f ∷ ps) = values Max ps

-- the files, in order
abbrev pub files : List Part → List (List ℕ)
files [] = []
files (setting key v ∷ ps) = files ps
files (file f ∷ ps) = f ∷ files ps

-- decimal digits without a sign or a leading zero
abbrev pub is_digit : ℕ → Bool
is_digit b = leb 48 b && leb b 57

abbrev pub all_digits : List ℕ → Bool
all_digits [] = true
all_digits (b ∷ bs) = is_digit b && all_digits bs

abbrev pub is_number : List ℕ → Bool
is_number [] = false
is_number (b ∷ []) = is_digit b
is_number (b ∷ c ∷ bs) = is_digit b && not (eqb b 48) && all_digits (c ∷ bs)

-- the number that the digits go on to, from n
abbrev pub value_from : ℕ → List ℕ → ℕ
value_from n [] = n
value_from n (b ∷ bs) = value_from (10 * n + (b - 48)) bs

-- the number that a word is, from low to high
abbrev pub number : ℕ → ℕ → List ℕ → Option ℕ
number low high w = let n = value_from 0 w in if is_number w && leb low n && leb n high then Some n else None
