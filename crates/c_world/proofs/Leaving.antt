-- The names in scope, and those of a block, in the words of the rules.
use Rattle.std.proofs.Common.{◌≡◌, ℕ, ◌<◌, ◌==◌, Bool, true, false, List, [], ◌∷◌, map, drop, slice_get, Option, Some, None, IfSome, option_map, if◌then◌else◌, refl, sym, ap}
use Rattle.std.specs.List.{AllByRecursion as ByRecursion}
use Rattle.std.proofs.lemmas.List.Elements.{recursion_from_All, All-from_recursion}
use Rattle.c_tree.specs.Text.{same_text}
use Rattle.c_types.specs.declared.terms.Term.{Term}
use Rattle.c_rules.specs.World as world
use Rattle.c_world.specs.Inner.{NamesBelow}
use Rattle.c_world.specs.Names.{find_in, stands_at, names_left, names_at}
use Rattle.c_world.specs.Seen.{entry_of, entry_named}
use Rattle.c_world.specs.declared.names.NameEntry.{NameEntry}
use Rattle.c_world.proofs.Heads.{equal}

module _ (ts : List Term) where
  left_by : (b : Bool) (e : NameEntry) (es left : List NameEntry) (others : List world.Entry) → map (entry_of ts) left ≡ others
      → map (entry_of ts) (if b then left else e ∷ es) ≡ (if b then others else entry_of ts e ∷ map (entry_of ts) es)
  left_by true e es left others h = h
  left_by false e es left others h = refl

  pub left_same : (d : ℕ) (es : List NameEntry) → map (entry_of ts) (names_left d es) ≡ world.names_left d (map (entry_of ts) es)
  left_same d [] = refl
  left_same d (e ∷ es) = left_by (e.bound.depth == d) e es (names_left d es) (world.names_left d (map (entry_of ts) es)) (left_same d es)

  at_by : (b : Bool) (e : NameEntry) (at : List NameEntry) (others : List world.Entry) → map (entry_of ts) at ≡ others
      → map (entry_of ts) (if b then e ∷ at else []) ≡ (if b then entry_of ts e ∷ others else [])
  at_by true e at others h = ap (λ xs. entry_of ts e ∷ xs) h
  at_by false e at others h = refl

  pub at_same : (d : ℕ) (es : List NameEntry) → map (entry_of ts) (names_at d es) ≡ world.names_at d (map (entry_of ts) es)
  at_same d [] = refl
  at_same d (e ∷ es) = at_by (e.bound.depth == d) e (names_at d es) (world.names_at d (map (entry_of ts) es)) (at_same d es)

  find_by : (n : List ℕ) (b : Bool) (e : NameEntry) (later : Option NameEntry) (others : Option world.Entry) → same_text n e.name ≡ b
      → option_map (entry_named ts n) (option_map (λ x. x.bound) later) ≡ others
      → option_map (entry_named ts n) (option_map (λ x. x.bound) (if b then Some e else later)) ≡ (if b then Some (entry_of ts e) else others)
  find_by n true e later others s h = ap (λ m. Some (entry_named ts m e.bound)) (equal n e.name s)
  find_by n false e later others s h = h

  pub find_same : (n : List ℕ) (es : List NameEntry) → option_map (entry_named ts n) (option_map (λ e. e.bound) (find_in n es)) ≡ world.find_in n (map (entry_of ts) es)
  find_same n [] = refl
  find_same n (e ∷ es) = find_by n (same_text n e.name) e (find_in n es) (world.find_in n (map (entry_of ts) es)) refl (find_same n es)

-- ---- their types are in the table

module _ (k : ℕ) where
  found_if : (b : Bool) (e : NameEntry) (later : Option NameEntry) → e.bound.ty.0 < k → IfSome (option_map (λ x. x.bound) later) (λ x. x.ty.0 < k)
      → IfSome (option_map (λ x. x.bound) (if b then Some e else later)) (λ x. x.ty.0 < k)
  found_if true e later h g = h
  found_if false e later h g = g

  found_by : (n : List ℕ) (es : List NameEntry) → ByRecursion (λ e. e.bound.ty.0 < k) es → IfSome (option_map (λ e. e.bound) (find_in n es)) (λ b. b.ty.0 < k)
  found_by n [] v = tt
  found_by n (e ∷ es) v = found_if (same_text n e.name) e (find_in n es) v.0 (found_by n es v.1)

  pub found_below : (n : List ℕ) (es : List NameEntry) → NamesBelow k es → IfSome (option_map (λ e. e.bound) (find_in n es)) (λ b. b.ty.0 < k)
  found_below n es v = found_by n es (recursion_from_All _ es v)

  left_if : (b : Bool) (left all : List NameEntry) → ByRecursion (λ e. e.bound.ty.0 < k) left → ByRecursion (λ e. e.bound.ty.0 < k) all → ByRecursion (λ e. e.bound.ty.0 < k) (if b then left else all)
  left_if true left all h g = h
  left_if false left all h g = g

  left_all : (d : ℕ) (es : List NameEntry) → ByRecursion (λ e. e.bound.ty.0 < k) es → ByRecursion (λ e. e.bound.ty.0 < k) (names_left d es)
  left_all d [] v = tt
  left_all d (e ∷ es) v = left_if (e.bound.depth == d) (names_left d es) (e ∷ es) (left_all d es v.1) v

  pub left_below : (d : ℕ) (es : List NameEntry) → NamesBelow k es → NamesBelow k (names_left d es)
  left_below d es v = All-from_recursion (λ e. e.bound.ty.0 < k) (names_left d es) (left_all d es (recursion_from_All _ es v))

  at_all : (d : ℕ) (es : List NameEntry) → ByRecursion (λ e. e.bound.ty.0 < k) es → ByRecursion (λ e. e.bound.ty.0 < k) (names_at d es)
  at_all d [] v = tt
  at_all d (e ∷ es) v = left_if (e.bound.depth == d) (e ∷ names_at d es) [] (v.0, at_all d es v.1) tt

  pub at_below : (d : ℕ) (es : List NameEntry) → NamesBelow k es → NamesBelow k (names_at d es)
  at_below d es v = All-from_recursion (λ e. e.bound.ty.0 < k) (names_at d es) (at_all d es (recursion_from_All _ es v))

-- ---- one name of the block at a time

pub one_left : (d : ℕ) (es : List NameEntry) → stands_at d es ≡ true → names_left d (drop 1 es) ≡ names_left d es
one_left d [] h = refl
one_left d (e ∷ es) h = ap (λ b. if b then names_left d es else e ∷ es) (sym h)

pub one_at : (d : ℕ) (es : List NameEntry) (e : NameEntry) → stands_at d es ≡ true → Some e ≡ slice_get es 0 → e ∷ names_at d (drop 1 es) ≡ names_at d es
one_at d [] e h s = absurd (cc)
one_at d (x ∷ es) e h s = let same : e ≡ x = cc in rw same (ap (λ b. if b then x ∷ names_at d es else []) (sym h))

pub none_left : (d : ℕ) (es : List NameEntry) → stands_at d es ≡ false → names_left d es ≡ es
none_left d [] h = refl
none_left d (e ∷ es) h = ap (λ b. if b then names_left d es else e ∷ es) h

pub none_at : (d : ℕ) (es : List NameEntry) → stands_at d es ≡ false → names_at d es ≡ []
none_at d [] h = refl
none_at d (e ∷ es) h = ap (λ b. if b then e ∷ names_at d es else []) h

pub none_stands : (d : ℕ) (es : List NameEntry) → stands_at d es ≡ true → None ≡ slice_get es 0 → ⊥
none_stands d [] h n = cc
none_stands d (e ∷ es) h n = cc
