-- The plans of the rows.
use Rattle.std.specs.Prelude.{ℕ, List, [], ◌∷◌}
use Rattle.std.proofs.Common.{lit≤}
use Rattle.token_modes.specs.declared.mode.Mode.{Mode}
use Rattle.token_modes.specs.declared.plan.Plan.{Plan}
use Rattle.tag_rules.specs.declared.abi.Abi.TheVariants.{Standard, Fast}
use Rattle.tag_examples.specs.Found.{How}

abbrev key : List ℕ
key = 0 ∷ 1 ∷ 2 ∷ 3 ∷ 4 ∷ 5 ∷ 6 ∷ 7 ∷ 8 ∷ 9 ∷ 10 ∷ 11 ∷ 12 ∷ 13 ∷ 14 ∷ 15 ∷ []

abbrev pub with_1 : Mode → Plan
with_1 mode = record { mode = mode; max = 1; fallback = 0; key = key; seed = 0; max_in_range = (lit≤ tt, lit≤ tt); fallback_below = lit≤ tt }

abbrev pub with_2 : Mode → Plan
with_2 mode = record { mode = mode; max = 2; fallback = 0; key = key; seed = 0; max_in_range = (lit≤ tt, lit≤ tt); fallback_below = lit≤ tt }

-- with another fallback
abbrev pub falling_back : Mode → Plan
falling_back mode = record { mode = mode; max = 2; fallback = 1; key = key; seed = 0; max_in_range = (lit≤ tt, lit≤ tt); fallback_below = lit≤ tt }

abbrev pub with_3 : Mode → Plan
with_3 mode = record { mode = mode; max = 3; fallback = 0; key = key; seed = 0; max_in_range = (lit≤ tt, lit≤ tt); fallback_below = lit≤ tt }

abbrev pub with_16 : Mode → Plan
with_16 mode = record { mode = mode; max = 16; fallback = 0; key = key; seed = 0; max_in_range = (lit≤ tt, lit≤ tt); fallback_below = lit≤ tt }

-- sixteen, under the key of Clang's own hash
abbrev clang_key : List ℕ
clang_key = 181 ∷ 212 ∷ 201 ∷ 235 ∷ 121 ∷ 16 ∷ 74 ∷ 121 ∷ 111 ∷ 236 ∷ 139 ∷ 27 ∷ 66 ∷ 135 ∷ 129 ∷ 212 ∷ []

abbrev pub as_clang : Mode → Plan
as_clang mode = record { mode = mode; max = 16; fallback = 0; key = clang_key; seed = 0; max_in_range = (lit≤ tt, lit≤ tt); fallback_below = lit≤ tt }

abbrev pub standard : Plan → How
standard plan = record { plan = plan; abi = Standard; words = [] }

abbrev pub fast : Plan → How
fast plan = record { plan = plan; abi = Fast; words = [] }

-- with these random words, over and over
abbrev pub random : Plan → List ℕ → How
random plan words = record { plan = plan; abi = Standard; words = words }
