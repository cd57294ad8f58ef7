-- How many entries a list has.
use Rattle.std.proofs.Common.{◌≡◌, ◌==◌, suc, List, [], ◌∷◌, length, refl, ap, rules}
use Rattle.c_tree.specs.Marked as m
use Rattle.c_tree.specs.View.{inits_of, params_of}
use Rattle.c_tree.specs.declared.expression.Param.{Param}
use Rattle.c_tree.specs.declared.statement.Init.{Init}
use Rattle.c_rules.specs.Unit.{how_many}
use Rattle.c_rules.specs.Walk.{is_alone}

pub how_many_is : (xs : List Init) → how_many (inits_of xs) ≡ length xs
how_many_is [] = refl
how_many_is (x ∷ xs) = ap suc (how_many_is xs)

-- whether nothing follows
pub alone_is : (ps : List Param) → is_alone m.no_declarator (params_of ps) ≡ (length ps == 0)
alone_is [] = refl
alone_is (p ∷ ps) = search rules
