-- Names that differ from those before them.
use Rattle.std.proofs.Common.{◌≡◌, ℕ, Bool, true, false, ◌&&◌, ◌||◌, not, if◌then◌else◌, List, [], ◌∷◌, Option, Some, None, nat_eq, refl, sym, ap, ◌∙◌, rules}
use Rattle.std.specs.Prelude.{is_some}
use Rattle.std.specs.Cmp.Lexicographic.{pointwise}
use Rattle.name_places.specs.Placed.{or_else, with_place}
use Rattle.c_tree.specs.Text.{same_text}
use Rattle.c_types.specs.Records.{MemberOf}
use Rattle.c_rules.specs.Names.{all_differ, is_member_name}
use Rattle.body_rules.proofs.Texts.{same}
use Rattle.declarator_rules.specs.Members.{differ_by}

nat_sym : (a b : ℕ) → nat_eq a b ≡ nat_eq b a
nat_sym a b = search rules

symmetric : (xs ys : List ℕ) → same_text xs ys ≡ same_text ys xs
symmetric [] [] = refl
symmetric [] (y ∷ ys) = refl
symmetric (x ∷ xs) [] = refl
symmetric (x ∷ xs) (y ∷ ys) = ap (λ b. b && same_text xs ys) (nat_sym x y) ∙ ap (λ b. nat_eq y x && b) (symmetric xs ys)

-- ---- where nothing stands before, the names differ from one another

abbrev any_before : (List ℕ → Bool) → List MemberOf → Bool
any_before f [] = false
any_before f (m ∷ ms) = f m.name || any_before f ms

four : (a b c d : Bool) → ((a || b) || (c || d)) ≡ ((a || c) || (b || d))
four true b c d = refl
four false true true d = refl
four false true false d = refl
four false false true d = refl
four false false false d = refl

either : (n : List ℕ) (f : List ℕ → Bool) (ms : List MemberOf) → any_before (λ k. same_text k n || f k) ms ≡ (is_member_name n ms || any_before f ms)
either n f [] = refl
either n f (m ∷ ms) =
    ap (λ b. (b || f m.name) || any_before (λ k. same_text k n || f k) ms) (symmetric m.name n)
    ∙ ap (λ b. (same_text n m.name || f m.name) || b) (either n f ms)
    ∙ four (same_text n m.name) (f m.name) (is_member_name n ms) (any_before f ms)

apart : (f m d a : Bool) → (not f && (d && not (m || a))) ≡ ((not m && d) && not (f || a))
apart true true d a = refl
apart true false true a = refl
apart true false false a = refl
apart false true true a = refl
apart false true false a = refl
apart false false true a = refl
apart false false false a = refl

differ_is : (f : List ℕ → Bool) (ms : List MemberOf) → differ_by f ms ≡ (all_differ ms && not (any_before f ms))
differ_is f [] = refl
differ_is f (m ∷ ms) =
    ap (λ b. not (f m.name) && b) (differ_is (λ n. same_text n m.name || f n) ms)
    ∙ ap (λ b. not (f m.name) && (all_differ ms && not b)) (either m.name f ms)
    ∙ apart (f m.name) (is_member_name m.name ms) (all_differ ms) (any_before f ms)

none_before : (f : List ℕ → Bool) → ((n : List ℕ) → f n ≡ false) → (ms : List MemberOf) → any_before f ms ≡ false
none_before f h [] = refl
none_before f h (m ∷ ms) = ap (λ b. b || any_before f ms) (h m.name) ∙ none_before f h ms

and_true : (b : Bool) → (b && true) ≡ b
and_true true = refl
and_true false = refl

pub differ_at_first : (f : List ℕ → Bool) (ms : List MemberOf) → ((n : List ℕ) → f n ≡ false) → all_differ ms ≡ differ_by f ms
differ_at_first f ms h = sym (differ_is f ms ∙ ap (λ b. all_differ ms && not b) (none_before f h ms) ∙ and_true (all_differ ms))

-- ---- one name more

differ_alike : (f g : List ℕ → Bool) → ((n : List ℕ) → f n ≡ g n) → (ms : List MemberOf) → differ_by f ms ≡ differ_by g ms
differ_alike f g h [] = refl
differ_alike f g h (m ∷ ms) =
    ap (λ b. not b && differ_by (λ n. same_text n m.name || f n) ms) (h m.name)
    ∙ ap (λ b. not (g m.name) && b) (differ_alike (λ n. same_text n m.name || f n) (λ n. same_text n m.name || g n) (λ n. ap (λ b. same_text n m.name || b) (h n)) ms)

placed_more : (o : Option ℕ) (b : Bool) → is_some (or_else o (if b then Some 0 else None)) ≡ (b || is_some o)
placed_more None true = refl
placed_more None false = refl
placed_more (Some k) true = refl
placed_more (Some k) false = refl

pub differ_step : (p q : List ℕ → Option ℕ) (m : MemberOf) (ms : List MemberOf) → is_some (p m.name) ≡ false
    → ((n : List ℕ) → q n ≡ with_place p m.name 0 n) → differ_by (λ n. is_some (p n)) (m ∷ ms) ≡ differ_by (λ n. is_some (q n)) ms
differ_step p q m ms e h =
    ap (λ b. not b && differ_by (λ n. same_text n m.name || is_some (p n)) ms) e
    ∙ differ_alike (λ n. same_text n m.name || is_some (p n)) (λ n. is_some (q n))
    (λ n. sym (ap is_some (h n) ∙ placed_more (p n) (pointwise nat_eq n m.name) ∙ ap (λ b. b || is_some (p n)) (same n m.name))) ms

pub differ_not : (p : List ℕ → Option ℕ) (m : MemberOf) (ms : List MemberOf) → is_some (p m.name) ≡ true → differ_by (λ n. is_some (p n)) (m ∷ ms) ≡ false
differ_not p m ms e = ap (λ b. not b && differ_by (λ n. same_text n m.name || is_some (p n)) ms) e
