-- Texts are compared byte by byte.
use Rattle.std.proofs.Common.{◌≡◌, ℕ, List, [], ◌∷◌, ◌&&◌, nat_eq, refl, ap}
use Rattle.std.specs.Cmp.Lexicographic.{pointwise}
use Rattle.c_tree.specs.Text.{same_text}

pub same : (xs ys : List ℕ) → pointwise nat_eq xs ys ≡ same_text xs ys
same [] [] = refl
same [] (y ∷ ys) = refl
same (x ∷ xs) [] = refl
same (x ∷ xs) (y ∷ ys) = ap (λ b. nat_eq x y && b) (same xs ys)
