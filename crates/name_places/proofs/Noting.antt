-- What an index has when a place is noted.
use Rattle.std.proofs.Common.{◌≡◌, ℕ, cond, Bool, true, false, List, [], ◌∷◌, Option, Some, None, nat_eq, if◌then◌else◌, refl, sym, subst, ap, ◌∙◌}
use Rattle.std.specs.Prelude.{is_some}
use Rattle.std.specs.Cmp.Lexicographic.{pointwise}
use Rattle.std.specs.Cmp.Lexicographic as texts
use Rattle.std.specs.Map.{lookup}
use Rattle.indexmap.specs.IndexMap.{insert_entry}
use Rattle.name_places.specs.Placed.{or_else, with_place}

none_parts : (b : Bool) (n : ℕ) (o : Option ℕ) → cond b (Some n) o ≡ None → (b ≡ false) × (o ≡ None)
none_parts true n o e = cc
none_parts false n o e = (refl, e)

or_none : (o : Option ℕ) → or_else o None ≡ o
or_none (Some n) = refl
or_none None = refl

module _ {K : Type 0} (text : K → List ℕ) where
  abbrev pub placed_in : List (K × ℕ) → List ℕ → Option ℕ
  placed_in es name = lookup (λ k. pointwise nat_eq name (text k)) es

  abbrev pub eq_by : K → K → Bool
  eq_by j k = pointwise nat_eq (text j) (text k)

  one : (b : Bool) (place : ℕ) → cond b (Some place) None ≡ (if b then Some place else None)
  one true place = refl
  one false place = refl

  more : (b : Bool) (n : ℕ) (o p : Option ℕ) → cond b (Some n) (or_else o p) ≡ or_else (cond b (Some n) o) p
  more true n o p = refl
  more false n o p = refl

  step : (e : K × ℕ) (es : List (K × ℕ)) (k : K) (place : ℕ) (other : List ℕ) (b : Bool) → b ≡ false
      → placed_in (insert_entry eq_by es k place) other ≡ with_place (placed_in es) (text k) place other
      → placed_in (if b then (e.0, place) ∷ es else e ∷ insert_entry eq_by es k place) other ≡ with_place (placed_in (e ∷ es)) (text k) place other
  step e es k place other true f h = cc
  step e es k place other false f h =
      ap (cond (pointwise nat_eq other (text e.0)) (Some e.1)) h
      ∙ more (pointwise nat_eq other (text e.0)) e.1 (placed_in es other) (if pointwise nat_eq other (text k) then Some place else None)

  pub noted : (es : List (K × ℕ)) (k : K) (place : ℕ) (other : List ℕ) → placed_in es (text k) ≡ None
      → placed_in (insert_entry eq_by es k place) other ≡ with_place (placed_in es) (text k) place other
  noted [] k place other n = one (pointwise nat_eq other (text k)) place
  noted (e ∷ es) k place other n =
      let parts = none_parts (pointwise nat_eq (text k) (text e.0)) e.1 (placed_in es (text k)) n in
      step e es k place other (pointwise nat_eq (text k) (text e.0)) parts.0 (noted es k place other parts.1)

  pub noted_by : (es : List (K × ℕ)) (k : K) (place : ℕ) (name other : List ℕ) → text k ≡ name → placed_in es name ≡ None
      → placed_in (insert_entry eq_by es k place) other ≡ with_place (placed_in es) name place other
  noted_by es k place name other e n =
      subst (λ (x : List ℕ). placed_in (insert_entry eq_by es k place) other ≡ with_place (placed_in es) x place other) e (noted es k place other (ap (placed_in es) e ∙ n))

-- a name that has a place keeps it
pub there : (f : List ℕ → Option ℕ) (name : List ℕ) (place was : ℕ) (other : List ℕ) → f name ≡ Some was → f other ≡ with_place f name place other
there f name place was other g = by (pointwise nat_eq other name) refl
  where
    has : (o : Option ℕ) (p : Option ℕ) → is_some o ≡ true → o ≡ or_else o p
    has (Some n) p e = refl
    has None p e = cc

    by : (b : Bool) → pointwise nat_eq other name ≡ b → f other ≡ or_else (f other) (if b then Some place else None)
    by true e = has (f other) (Some place) (ap (λ n. is_some (f n)) (texts.same_text other name (sym e)) ∙ ap is_some g)
    by false e = sym (or_none (f other))
