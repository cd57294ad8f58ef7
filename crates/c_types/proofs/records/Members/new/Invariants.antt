use Rattle.std.proofs.Common.{◌≡◌, ℕ, List, take}
use Rattle.name_places.specs.Placed.{placed, place_of}
use Rattle.c_types.specs.Members.{names_in}
use Rattle.c_types.proofs.records.Members.new.Given as goal

abbrev pub invariant-loop-i : goal.invariant-loop-i
invariant-loop-i l = (name : List ℕ) → placed l.places name ≡ place_of name (names_in (take l.i l.fn.list))
