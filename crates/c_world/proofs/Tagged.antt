-- An index finds each tag in the list of tags.
use Rattle.std.proofs.Common.{◌≡◌, ℕ, zero, suc, ◌<◌, Bool, true, false, List, [], ◌∷◌, ◌++◌, length, map, reverse, Option, Some, None, IfSome, nat_eq, if◌then◌else◌, option_map, option_and_then, slice_get, refl, sym, ◌∙◌, ap, arith, length-append, add-one}
use Rattle.std.specs.List.{AllByRecursion as ByRecursion}
use Rattle.std.proofs.lemmas.List.{reverse-append}
use Rattle.std.proofs.lemmas.List.Elements.{recursion_from_All}
use Rattle.std.specs.Cmp.Lexicographic.{pointwise}
use Rattle.c_tree.specs.Text.{same_text}
use Rattle.c_rules.specs.World.{Tag, find_tag}
use Rattle.c_types.proofs.Sounding.{last_is}
use Rattle.name_places.specs.declared.places.NamePlaces.{NamePlaces}
use Rattle.name_places.specs.Placed.{placed, with_place, or_else}
use Rattle.c_world.specs.Inner.{TagBelow, TagsBelow}
use Rattle.c_world.specs.Tags.{tag_of, entry_of, Indexes}
use Rattle.c_world.specs.declared.tags.TagEntry.{TagEntry}
use Rattle.c_world.specs.declared.tags.Named.{Named}
use Rattle.c_world.proofs.Heads.{same, equal}

-- ---- one tag more

there : {A : Type 0} (xs : List A) (k : ℕ) (f : A → TagEntry) → k < length xs → option_map f (slice_get xs k) ≡ None → ⊥
there [] k f l e = omega arith
there (x ∷ xs) zero f l e = cc
there (x ∷ xs) (suc k) f l e = there xs k f (omega arith) e

front : {A : Type 0} (xs : List A) (x : A) (k : ℕ) → k < length xs → slice_get (xs ++ x ∷ []) k ≡ slice_get xs k
front [] x k l = absurd (omega arith)
front (y ∷ ys) x zero l = refl
front (y ∷ ys) x (suc k) l = front ys x k (omega arith)

found_more : (list : List Named) (one : Named) (o : Option ℕ) (b : Bool) (was : Option Tag) → IfSome o (λ p. p < length list) → (b ≡ true → was ≡ None)
    → option_map (λ n. n.tag) (option_and_then (slice_get list) o) ≡ option_map entry_of was
    → option_map (λ n. n.tag) (option_and_then (slice_get (list ++ one ∷ [])) (or_else o (if b then Some (length list) else None))) ≡ option_map entry_of (if b then Some (tag_of one) else was)
found_more list one (Some p) true was l n h = absurd (there list p (λ m. m.tag) l (h ∙ ap (option_map entry_of) (n refl)))
found_more list one (Some p) false was l n h = ap (option_map (λ m. m.tag)) (front list one p l) ∙ h
found_more list one None true was l n h = ap (option_map (λ m. m.tag)) (last_is list one)
found_more list one None false was l n h = h

within_more : (o : Option ℕ) (b : Bool) (k : ℕ) → IfSome o (λ p. p < k) → IfSome (or_else o (if b then Some k else None)) (λ p. p < suc k)
within_more (Some p) b k l = omega (arith, l)
within_more None true k l = omega arith
within_more None false k l = tt

pub put : (old new : NamePlaces) (list after : List Named) (one : Named) → ((o : List ℕ) → placed new o ≡ with_place (placed old) one.name (length list) o) → after ≡ list ++ one ∷ []
    → find_tag one.name (map tag_of (reverse list)) ≡ None → Indexes old list (map tag_of (reverse list)) → Indexes new after (map tag_of (reverse after))
put old new list after one h e none i = rw (e, reverse-append list (one ∷ [])) (record {
  found = λ n. ap (λ o. option_map (λ m. m.tag) (option_and_then (slice_get (list ++ one ∷ [])) o)) (h n)
      ∙ found_more list one (placed old n) (pointwise nat_eq n one.name) (find_tag n (map tag_of (reverse list))) (i.within n)
      (λ s. ap (λ m. find_tag m (map tag_of (reverse list))) (equal n one.name (sym (same n one.name) ∙ s)) ∙ none) (i.found n)
      ∙ ap (λ b. option_map entry_of (if b then Some (tag_of one) else find_tag n (map tag_of (reverse list)))) (same n one.name);
  within = λ n. rw (h n, length-append list (one ∷ []), add-one) (within_more (placed old n) (pointwise nat_eq n one.name) (length list) (i.within n));
})

pub kept : (old new : NamePlaces) (list : List Named) (tags : List Tag) → ((o : List ℕ) → placed new o ≡ placed old o) → Indexes old list tags → Indexes new list tags
kept old new list tags h i = record {
  found = λ n. rw (h n) (i.found n);
  within = λ n. rw (h n) (i.within n);
}

-- ---- the number of a tag that is found

found_if : (r e : ℕ) (b : Bool) (t : Tag) (later : Option Tag) → TagBelow r e t.sort t.number → IfSome (option_map entry_of later) (λ x. TagBelow r e x.sort x.number)
    → IfSome (option_map entry_of (if b then Some t else later)) (λ x. TagBelow r e x.sort x.number)
found_if r e true t later h g = h
found_if r e false t later h g = g

found_by : (r e : ℕ) (name : List ℕ) (ts : List Tag) → ByRecursion (λ t. TagBelow r e t.sort t.number) ts → IfSome (option_map entry_of (find_tag name ts)) (λ t. TagBelow r e t.sort t.number)
found_by r e name [] v = tt
found_by r e name (t ∷ ts) v = found_if r e (same_text name t.name) t (find_tag name ts) v.0 (found_by r e name ts v.1)

pub found_below : (r e : ℕ) (name : List ℕ) (ts : List Tag) → TagsBelow r e ts → IfSome (option_map entry_of (find_tag name ts)) (λ t. TagBelow r e t.sort t.number)
found_below r e name ts v = found_by r e name ts (recursion_from_All _ ts v)
