-- The numbers of the library's functions.
use Rattle.std.proofs.Common.{◌≡◌, ℕ, suc, ◌+◌, List, [], ◌∷◌, map, if◌then◌else◌, Some, refl, ap, ◌∙◌, add-one}
use Rattle.c_tree.specs.Text.{same_text}
use Rattle.c_world.proofs.Heads.{same}
use Rattle.c_rules.specs.Names.{Prototype}
use Rattle.c_rules.specs.Forms.{number_in}
use Rattle.check_expressions.specs.Places.{place_from}

pub number_is : (i : ℕ) (n : List ℕ) (ps : List Prototype) → place_from i n (map (λ p. p.name) ps) ≡ number_in i n ps
number_is i n [] = refl
number_is i n (p ∷ ps) =
    ap (λ b. if b then Some i else place_from (i + 1) n (map (λ p. p.name) ps)) (same n p.name)
    ∙ ap (λ o. if same_text n p.name then Some i else o) (rw (add-one i) (number_is (suc i) n ps))
