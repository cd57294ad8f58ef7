-- The names and the types of members.
use Rattle.std.specs.Prelude.{ℕ, Bool, true, false, ◌||◌, ◌&&◌, not, List, [], ◌∷◌}
use Rattle.c_types.specs.CTypes.{CType, Void, Int, Enum, Pointer, Array, Flexible, Function, Record, Named, Qualified, is_flexible}
use Rattle.c_types.specs.Records.{MemberOf}
use Rattle.c_tree.specs.Text.{same_text}

-- whether it is itself an array without a length
abbrev pub is_unsized : CType → Bool
is_unsized (Flexible t) = true
is_unsized Void = false
is_unsized (Int k) = false
is_unsized (Enum e) = false
is_unsized (Pointer t) = false
is_unsized (Array t n) = false
is_unsized (Function r ps) = false
is_unsized (Record k) = false
is_unsized (Named n t) = false
is_unsized (Qualified q t) = false

-- whether one of the members is an array without a length
abbrev pub any_is_flexible : List MemberOf → Bool
any_is_flexible [] = false
any_is_flexible (m ∷ ms) = is_flexible m.type || any_is_flexible ms

-- whether the names of members differ, and differ from names before
abbrev pub differ_by : (before : List ℕ → Bool) → List MemberOf → Bool
differ_by before [] = true
differ_by before (m ∷ ms) = not (before m.name) && differ_by (λ n. same_text n m.name || before n) ms
