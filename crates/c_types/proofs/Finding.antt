-- Numbers by their keys.
use Rattle.std.proofs.Common.{◌≡◌, ◌≢◌, ℕ, List, [], ◌∷◌, Bool, false, cond, Option, Some, refl, ap}
use Rattle.std.proofs.Common.{Vec, Global}
use Rattle.std.specs.declared.cmp.Ordering.{Ordering}
use Rattle.std.specs.declared.cmp.Ordering.TheVariants.{Less, Equal, Greater}
use Rattle.std.specs.Ordering.{nat_cmp, is_eq, match_ordering, ordering_then}
use Rattle.std.specs.Cmp.{tied_itself}
use Rattle.std.specs.Cmp.Lexicographic.{slice_cmp, nat_list_cmp_total}
use Rattle.std.specs.BTreeMap.{insert_entry}
use Rattle.std.specs.Map.{lookup}
use Rattle.std.proofs.lemmas.Map.Lookups.{exact_unsigned}

-- lists that compare as equal are the same
same_by : (x y : ℕ) (xs ys : List ℕ) (o : Ordering) → nat_cmp x y ≡ o → (slice_cmp nat_cmp xs ys ≡ Equal → xs ≡ ys) → ordering_then o (slice_cmp nat_cmp xs ys) ≡ Equal → x ∷ xs ≡ y ∷ ys
same_by x y xs ys Equal e h g = let front : x ≡ y = exact_unsigned x y e in cc (front, h g)
same_by x y xs ys Less e h g = cc
same_by x y xs ys Greater e h g = cc

pub same_list : (xs ys : List ℕ) → slice_cmp nat_cmp xs ys ≡ Equal → xs ≡ ys
same_list [] [] e = refl
same_list [] (y ∷ ys) e = cc
same_list (x ∷ xs) [] e = cc
same_list (x ∷ xs) (y ∷ ys) e = same_by x y xs ys (nat_cmp x y) refl (same_list xs ys) e

itself : (xs : List ℕ) → slice_cmp nat_cmp xs xs ≡ Equal
itself xs = tied_itself nat_list_cmp_total xs

abbrev pub is_key : List ℕ → Vec ℕ Global → Bool
is_key k v = is_eq (slice_cmp nat_cmp k v.items)

abbrev pub compared : Vec ℕ Global → Vec ℕ Global → Ordering
compared a b = slice_cmp nat_cmp a.items b.items

module _ (v : Vec ℕ Global) (n : ℕ) where
  here_by : (e : Vec ℕ Global × ℕ) (es : List (Vec ℕ Global × ℕ)) (o : Ordering) → compared v e.0 ≡ o → lookup (is_key v.items) (insert_entry compared es v n) ≡ Some n → lookup (is_key v.items) (match_ordering o ((v, n) ∷ e ∷ es) ((e.0, n) ∷ es) (e ∷ insert_entry compared es v n)) ≡ Some n
  here_by e es Less q h = let own : slice_cmp nat_cmp v.items v.items ≡ Equal = itself v.items in rw own refl
  here_by e es Equal q h = rw q refl
  here_by e es Greater q h = rw q h

  pub found_here : (es : List (Vec ℕ Global × ℕ)) → lookup (is_key v.items) (insert_entry compared es v n) ≡ Some n
  found_here [] = let own : slice_cmp nat_cmp v.items v.items ≡ Equal = itself v.items in rw own refl
  found_here (e ∷ es) = here_by e es (compared v e.0) refl (found_here es)

  module _ (k : List ℕ) (other : k ≢ v.items) where
    apart : (o : Ordering) → slice_cmp nat_cmp k v.items ≡ o → is_eq o ≡ false
    apart Less e = refl
    apart Equal e = absurd (other (same_list k v.items e))
    apart Greater e = refl

    not_key : is_key k v ≡ false
    not_key = apart (slice_cmp nat_cmp k v.items) refl

    other_by : (e : Vec ℕ Global × ℕ) (es : List (Vec ℕ Global × ℕ)) (o : Ordering) → compared v e.0 ≡ o → lookup (is_key k) (insert_entry compared es v n) ≡ lookup (is_key k) es → lookup (is_key k) (match_ordering o ((v, n) ∷ e ∷ es) ((e.0, n) ∷ es) (e ∷ insert_entry compared es v n)) ≡ lookup (is_key k) (e ∷ es)
    other_by e es Less q h = rw not_key refl
    other_by e es Equal q h = let same : v.items ≡ e.0.items = same_list v.items e.0.items q in let not : is_eq (slice_cmp nat_cmp k e.0.items) ≡ false = rw (← same) not_key in rw not refl
    other_by e es Greater q h = ap (λ (o : Option ℕ). cond (is_key k e.0) (Some e.1) o) h

    pub found_other : (es : List (Vec ℕ Global × ℕ)) → lookup (is_key k) (insert_entry compared es v n) ≡ lookup (is_key k) es
    found_other [] = rw not_key refl
    found_other (e ∷ es) = other_by e es (compared v e.0) refl (found_other es)
