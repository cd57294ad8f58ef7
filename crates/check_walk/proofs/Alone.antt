-- Whether a parameter stands alone.
use Rattle.std.proofs.Common.{◌≡◌, ℕ, suc, ◌+◌, add-one, Bool, false, ◌&&◌, ◌==◌, leb, List, [], ◌∷◌, length, drop, refl, arith}
use Rattle.std.proofs.lemmas.Bool.Decides.{nat_tests}
use Rattle.c_tree.specs.Marked as t
use Rattle.c_tree.specs.View.{params_of}
use Rattle.c_tree.specs.declared.expression.Param.{Param}
use Rattle.c_rules.specs.Walk.{is_alone}

two_are_more : (n : ℕ) → leb (suc (suc n)) 1 ≡ false
two_are_more n = grind (arith, nat_tests)

-- no more than one parameter, where none stands behind the first
pub none_behind : (ps : List Param) → leb (length ps) 1 ≡ is_alone t.no_declarator (params_of (drop 1 ps))
none_behind [] = refl
none_behind (p ∷ []) = refl
none_behind (p ∷ q ∷ ps) = two_are_more (length ps)

-- the same place, in the list that another read gave
pub alone_is : (place i : ℕ) (d : t.MaybeDeclarator) (items other : List Param) (r : Bool) → place ≡ i → items ≡ other
    → r ≡ ((place == 0) && is_alone d (params_of (drop (suc place) other))) → r ≡ ((place == 0) && is_alone d (params_of (drop (i + 1) items)))
alone_is place i d items other r p q h = rw (q, add-one, ← p) h
