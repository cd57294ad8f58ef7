-- Whether a list that was read is empty.
use Rattle.std.proofs.Common.{◌≡◌, Bool, true, false, List, [], ◌∷◌, map, refl}
use Rattle.std.specs.Prelude.{◌↔◌, IsTrue}
use Rattle.c_reader.specs.Begin.{is_empty}

pub empty_seen : {A B : Type 0} (f : A → B) (xs : List A) (b : Bool) → (IsTrue b ↔ (xs ≡ [])) → b ≡ is_empty (map f xs)
empty_seen f [] true h = refl
empty_seen f [] false h = h.1 refl
empty_seen f (x ∷ xs) true h = cc (h.0 refl)
empty_seen f (x ∷ xs) false h = refl
