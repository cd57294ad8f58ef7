-- Arrays that no table refuses.
use Rattle.std.proofs.Common.{rules, ◌≡◌, ℕ, ◌<◌, ◌*◌, nat_le, Bool, false, if◌then◌else◌, Option, Some, None, ap, ◌∙◌}
use Rattle.c_types.specs.Records.{array_refusal, limit}
use Rattle.c_types.specs.declared.terms.TypeEnd.TheVariants as end

not_le : (m n : ℕ) → n < m → nat_le m n ≡ false
not_le m n h = search rules

pub array_is_accepted : (n s : ℕ) (o : Option ℕ) → o ≡ Some s → n * s < limit → array_refusal n o ≡ None
array_is_accepted n s o e h = ap (array_refusal n) e ∙ ap (λ (b : Bool). if b then Some end.TooLarge else None) (not_le limit (n * s) h)
