-- Lines, words and numbers of a text.
use Rattle.std.specs.Prelude.{ℕ, ◌+◌, ◌*◌, ◌-◌, Bool, true, false, ◌&&◌, not, leb, eqb, length, List, [], ◌∷◌, Option, Some, None, option_map, if◌then◌else◌}
use Rattle.std.specs.List.{slice_split}

-- what stands behind the last line end is a line where it is not empty
abbrev pub but_empty : List (List ℕ) → List (List ℕ)
but_empty [] = []
but_empty (l ∷ []) = if eqb (length l) 0 then [] else l ∷ []
but_empty (l ∷ m ∷ ls) = l ∷ but_empty (m ∷ ls)

-- the lines, each without its line end
abbrev pub lines : List ℕ → List (List ℕ)
lines text = but_empty (slice_split (λ b. eqb b 10) text)

-- the words of a line, between single spaces
abbrev pub words : List ℕ → List (List ℕ)
words line = slice_split (λ b. eqb b 32) line

abbrev pub words_behind : Option (List ℕ) → List (List ℕ)
words_behind None = []
words_behind (Some line) = words line

-- decimal digits without a leading zero
abbrev pub is_digit : ℕ → Bool
is_digit b = leb 48 b && leb b 57

abbrev pub all_digits : List ℕ → Bool
all_digits [] = true
all_digits (b ∷ bs) = is_digit b && all_digits bs

abbrev pub is_number : List ℕ → Bool
is_number [] = false
is_number (b ∷ []) = is_digit b
is_number (b ∷ c ∷ bs) = is_digit b && not (eqb b 48) && all_digits (c ∷ bs)

-- the number that the digits go on to, from n
abbrev pub value_from : ℕ → List ℕ → ℕ
value_from n [] = n
value_from n (b ∷ bs) = value_from (10 * n + (b - 48)) bs

-- the number below 2 ^ 64 that a word is
abbrev pub number : List ℕ → Option ℕ
number w = if is_number w && leb (value_from 0 w) 18446744073709551615 then Some (value_from 0 w) else None

-- the number that the first word is, and the words behind it
abbrev pub take_number : List (List ℕ) → Option (ℕ × List (List ℕ))
take_number [] = None
take_number (w ∷ ws) = option_map (λ v. (v, ws)) (number w)
