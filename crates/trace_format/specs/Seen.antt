-- What the parts of the reader answer; no public contract names it.
use denote.Ref.{Bor}
use Rattle.std.specs.Prelude.{ℕ, List, [], ◌∷◌, Option, Some, None, Result, Ok, Err}
use Rattle.std.specs.Option.{option_copied}
use Rattle.trace_format.specs.Lines.{lines, words_behind}

-- a line and the lines behind it
abbrev pub line_seen : Option (Bor (List ℕ) × Bor (List ℕ)) → List (List ℕ)
line_seen None = []
line_seen (Some p) = p.0.now ∷ lines p.1.now

-- a number and the words behind it
abbrev pub number_seen : ℕ × Option (Bor (List ℕ)) → ℕ × List (List ℕ)
number_seen p = (p.0, words_behind (option_copied p.1))

abbrev pub pair_seen : {E : Type 0} → Result (Bor (List ℕ) × Bor (List ℕ)) E → Result (List ℕ × List (List ℕ)) E
pair_seen (Ok p) = Ok (p.0.now, lines p.1.now)
pair_seen (Err e) = Err e

abbrev pub unit_seen : {U E : Type 0} → Result U E → Result (Unit {0}) E
unit_seen (Ok u) = Ok tt
unit_seen (Err e) = Err e
