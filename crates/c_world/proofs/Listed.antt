-- An index has a place for each name of a set.
use Rattle.std.proofs.Common.{◌≡◌, ℕ, Bool, true, false, ◌||◌, List, [], ◌∷◌, ◌++◌, reverse, Option, Some, None, is_some, nat_eq, if◌then◌else◌, refl, sym, ◌∙◌, ap}
use Rattle.std.proofs.lemmas.List.{reverse-append}
use Rattle.std.specs.Cmp.Lexicographic.{pointwise}
use Rattle.c_tree.specs.Text.{same_text}
use Rattle.c_rules.specs.World.{is_listed}
use Rattle.name_places.specs.declared.places.NamePlaces.{NamePlaces}
use Rattle.name_places.specs.Placed.{placed, with_place, or_else}
use Rattle.c_world.specs.Sets.{Indexes}
use Rattle.c_world.proofs.Heads.{same}

one_more : (o : Option ℕ) (b c was : Bool) (p : ℕ) → b ≡ c → is_some o ≡ was → is_some (or_else o (if b then Some p else None)) ≡ (c || was)
one_more (Some q) true true true p e h = refl
one_more (Some q) false false true p e h = refl
one_more None true true false p e h = refl
one_more None false false false p e h = refl
one_more (Some q) b c false p e h = absurd (cc)
one_more None b c true p e h = absurd (cc)
one_more o true false was p e h = absurd (cc)
one_more o false true was p e h = absurd (cc)

pub put : (old new : NamePlaces) (list after : List (List ℕ)) (name : List ℕ) (p : ℕ) → ((o : List ℕ) → placed new o ≡ with_place (placed old) name p o) → after ≡ list ++ name ∷ [] → Indexes old (reverse list) → Indexes new (reverse after)
put old new list after name p h e i n =
    ap is_some (h n)
    ∙ one_more (placed old n) (pointwise nat_eq n name) (same_text n name) (is_listed n (reverse list)) p (same n name) (i n)
    ∙ ap (is_listed n) (sym (ap reverse e ∙ reverse-append list (name ∷ [])))

pub kept : (old new : NamePlaces) (names : List (List ℕ)) → ((o : List ℕ) → placed new o ≡ placed old o) → Indexes old names → Indexes new names
kept old new names h i n = ap is_some (h n) ∙ i n
