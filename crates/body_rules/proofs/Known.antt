-- The known attributes in three parts.
use Rattle.std.proofs.Common.{◌≡◌, ℕ, Bool, true, false, ◌||◌, if◌then◌else◌, List, codes, refl, ap, ◌∙◌}
use Rattle.c_rules.specs.Attributes.{attributes, is_attribute, is_name_of}
use Rattle.body_rules.specs.Known.{is_known_first, is_known_second, is_known_third}

four : (a b c d e : Bool) → (a || (b || (c || (d || e)))) ≡ (if (if a then true else if b then true else if c then true else d) then true else e)
four true b c d e = refl
four false true c d e = refl
four false false true d e = refl
four false false false true e = refl
four false false false false e = refl

last : (a b c d : Bool) → (a || (b || (c || (d || false)))) ≡ (if a then true else if b then true else if c then true else d)
last true b c d = refl
last false true c d = refl
last false false true d = refl
last false false false true = refl
last false false false false = refl

pub attributes_are : (n : List ℕ) → is_attribute n ≡ (if is_known_first n then true else if is_known_second n then true else is_known_third n)
unfolding attributes
attributes_are n =
    four (is (codes "no_sanitize")) (is (codes "disable_sanitizer_instrumentation")) (is (codes "unused")) (is (codes "noinline")) (third || (is (codes "malloc") || (is (codes "alloc_size") || (is (codes "nothrow") || last_four))))
    ∙ ap (λ e. if is_known_first n then true else e) (
    four third (is (codes "malloc")) (is (codes "alloc_size")) (is (codes "nothrow")) last_four
    ∙ ap (λ e. if is_known_second n then true else e) (last (is (codes "leaf")) (is (codes "pure")) (is (codes "nonnull")) (is (codes "warn_unused_result"))))
  where
    is : List ℕ → Bool
    is a = is_name_of n a

    third : Bool
    third = is (codes "noreturn")

    last_four : Bool
    last_four = is (codes "leaf") || (is (codes "pure") || (is (codes "nonnull") || (is (codes "warn_unused_result") || false)))
