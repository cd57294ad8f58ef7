-- The value of digits, read from the left.
use Rattle.std.proofs.Common.{zero, suc, ◌≡◌, ℕ, ◌+◌, ◌-◌, ◌*◌, ◌<◌, ◌≤◌, List, [], ◌∷◌, length, get_or, drop, refl, ap, ◌∙◌, arith}
use Rattle.std.proofs.lemmas.List.{drop_more}
use Rattle.trace_format.specs.Lines.{value_from}

pub value_grows : (n : ℕ) (bs : List ℕ) → n ≤ value_from n bs
value_grows n [] = omega arith
value_grows n (b ∷ bs) = let e = value_grows (10 * n + (b - 48)) bs in omega (arith, e)

pub value_at : (n i : ℕ) (bs : List ℕ) → i < length bs → value_from n (drop i bs) ≡ value_from (10 * n + (get_or bs i 0 - 48)) (drop (i + 1) bs)
value_at n i bs lt = ap (λ (l : List ℕ). value_from n l) (drop_more bs i 0 lt)
