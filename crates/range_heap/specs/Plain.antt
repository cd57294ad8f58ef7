-- Which entries of a history leave an interval clear: each granted block that no later entry releases
-- stays apart from it.
use Rattle.std.specs.Prelude.{◌≡◌, ◌⊎◌, ℕ, ◌+◌, ◌≤◌, Bool, true, false, ◌||◌, nat_eq, List, [], ◌∷◌}
use Rattle.range_heap.specs.declared.call.HeapCall.{HeapCall}
use Rattle.range_heap.specs.declared.call.HeapEvent.{HeapEvent}
use Rattle.range_heap.specs.declared.call.HeapEvent.TheVariants.{Grant, Refuse, Release}
use Rattle.range_heap.specs.Blocks.{rounded}

abbrev pub releases : ℕ → HeapEvent → Bool
releases place (Grant size start) = false
releases place (Refuse size) = false
releases place (Release freed) = nat_eq freed place

abbrev pub released : ℕ → List HeapCall → Bool
released place [] = false
released place (e ∷ es) = releases place e.what || released place es

abbrev pub IsApart : ℕ → ℕ → ℕ → ℕ → Type 0
IsApart at n start size = (at + n ≤ start) ⊎ (start + rounded size ≤ at)

abbrev pub Passes : ℕ → ℕ → HeapEvent → List HeapCall → Type 0
Passes at n (Grant size start) later = (released start later ≡ true) ⊎ IsApart at n start size
Passes at n (Refuse size) later = Unit {0}
Passes at n (Release freed) later = Unit {0}

abbrev pub AllPass : ℕ → ℕ → List HeapCall → Type 0
AllPass at n [] = Unit {0}
AllPass at n (e ∷ es) = Passes at n e.what es × AllPass at n es
