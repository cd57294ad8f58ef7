-- How many pointers stand around a declarator.
use Rattle.std.proofs.Common.{◌≡◌, ℕ, suc, ◌<◌, List, arith, subst}
use Rattle.c_tree.specs.Tok.{Word}
use Rattle.c_reader.specs.MarkedParts.{Open}
use Rattle.c_reader.specs.MarkedInside as r

abbrev pub pointers : r.InDeclarator → ℕ
pointers (r.in_pointer o qs k) = suc (pointers k)
pointers (r.in_group o k) = 0
pointers (r.in_item q) = 0
pointers (r.in_field o f ss ds) = 0
pointers (r.in_param o p ss) = 0
pointers (r.in_type o n x k ss) = 0

below : (n : ℕ) → n < suc n
below n = omega arith

pub fewer : (o : Open) (qs : List Word) (k p : r.InDeclarator) → r.in_pointer o qs k ≡ p → pointers k < pointers p
fewer o qs k p e = subst (λ q. pointers k < pointers q) e (below (pointers k))
